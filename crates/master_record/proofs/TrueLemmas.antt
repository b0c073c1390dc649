-- The lines of a true gain are true.
use Rattle.std.proofs.Common.{◌≡◌, ◌≤◌, ◌+◌, ◌⊎◌, ℕ, Bool, List, [], ◌∷◌, ◌++◌, length, get_or}
use Rattle.std.proofs.Common.{refl}
use Rattle.std.proofs.Common.{sym, ap, subst, ⊎_elim, arith, inl, inr}
use Rattle.std.specs.Prelude.{All, Contains}
use Rattle.std.proofs.lemmas.List.Elements.{All-head, All-tail, All-append, All-push}
use Rattle.item_list.proofs.ListLemmas.{All-right}
use Rattle.ground_program.specs.declared.pair.Pair.{Pair}
use Rattle.ground_program.specs.declared.program.Mode.{Mode}
use Rattle.ground_program.specs.declared.program.Mode.TheVariants.{Cautious, Brave}
use Rattle.ground_program.specs.Bounds.{IsCandidate, Shows}
use Rattle.normal_program.specs.declared.normal.Normal.{Normal}
use Rattle.normal_program.specs.Normal.{IsAnswerSetN}
use Rattle.anytime_core.specs.Truth.{IsCoherent}
use Rattle.report.specs.declared.lines.Line.{Line}
use Rattle.report.specs.declared.lines.Line.TheVariants.{Answer, SettledIn, SettledOut, Sizes}
use Rattle.report.specs.declared.lines.Line.TheVariants.{Watch, Unsettled, Unknown, Complete}
use Rattle.report.specs.declared.lines.Line.TheVariants.{Partial, Incoherent, NoMemory, Refused}
use Rattle.worker_jobs.specs.Gain.{IsProvedCandidate}
use Rattle.master_record.specs.Settling.{AreAnswers, IsGainedLine, IsShownLine, IsProvedLine}
use Rattle.master_record.specs.Settling.{cand_of, shown_line, proved_line}
use Rattle.master_record.specs.Merging.{IsTrueLine}

-- a line gives an answer set
abbrev pub GivesSet : Normal → Line → Type 0
GivesSet normal (Answer number set) = IsAnswerSetN normal set
GivesSet normal _ = ⊥

module _ (normal : Normal) where
  pub true_shown : (mode : Mode) (cand by : ℕ) (set : List Bool) → IsCandidate normal.names cand
      → IsAnswerSetN normal set → Shows normal.names mode set cand
      → IsTrueLine normal mode (shown_line mode cand by)
  true_shown Cautious cand by set candidate answer shown =
      (candidate, λ all. shown (all set answer))
  true_shown Brave cand by set candidate answer shown = (candidate, (set, answer, shown))

  pub true_proved : (mode : Mode) (cand : ℕ) → IsProvedCandidate normal mode cand
      → IsTrueLine normal mode (proved_line mode cand)
  true_proved Cautious cand is = (is.candidate, is.proved)
  true_proved Brave cand is = (is.candidate, is.proved)

  -- the lines of answer sets give answer sets
  pub give_sets : (mode : Mode) (pair : Pair) (count : ℕ) (sets : List (List Bool))
      (lines : List Line) → All (IsAnswerSetN normal) sets
      → AreAnswers normal.names mode pair count sets lines → All (GivesSet normal) lines
  give_sets mode pair count [] lines sound none =
      subst (All (GivesSet normal)) (sym none) (λ k d within. absurd (omega arith))
  give_sets mode pair count (set ∷ sets) lines sound given =
      let rest : All (IsAnswerSetN normal) sets = All-tail (IsAnswerSetN normal) set sets sound in
      ⊎_elim
      (λ (news, (more, parts, next)).
      subst (All (GivesSet normal)) (sym parts)
      (All-append (GivesSet normal) (Answer (count + 1) set ∷ []) more
      (All-push (GivesSet normal) [] (Answer (count + 1) set) (λ k d within. absurd (omega arith))
      (All-head (IsAnswerSetN normal) set sets sound))
      (give_sets mode pair (count + 1) sets more rest next)))
      (λ (old, next). give_sets mode pair count sets lines rest next)
      given

  -- they settle nothing
  true_given : (mode : Mode) (line : Line) → GivesSet normal line → IsTrueLine normal mode line
  true_given mode (Answer number set) gives = tt
  true_given mode (SettledIn cand by) gives = absurd gives
  true_given mode (SettledOut cand by) gives = absurd gives
  true_given mode (Sizes lower upper) gives = tt
  true_given mode (Watch watcher lower upper) gives = tt
  true_given mode (Unsettled cand units) gives = tt
  true_given mode (Unknown units) gives = tt
  true_given mode Complete gives = tt
  true_given mode Partial gives = tt
  true_given mode Incoherent gives = tt
  true_given mode NoMemory gives = tt
  true_given mode (Refused line why value) gives = tt

  pub true_answers : (mode : Mode) (lines : List Line) → All (GivesSet normal) lines
      → All (IsTrueLine normal mode) lines
  true_answers mode lines gives = λ k d within. true_given mode (get_or lines k d) (gives k d within)

  -- where there is such a line there is an answer set
  pub coherent_by : (lines : List Line) → All (GivesSet normal) lines → 1 ≤ length lines
      → IsCoherent normal
  coherent_by [] gives some = absurd (omega arith)
  coherent_by (line ∷ lines) gives some =
      set_of line (All-head (GivesSet normal) line lines gives)
    where
      set_of : (one : Line) → GivesSet normal one → IsCoherent normal
      set_of (Answer number set) is = (set, is)
      set_of (SettledIn cand by) is = absurd is
      set_of (SettledOut cand by) is = absurd is
      set_of (Sizes lower upper) is = absurd is
      set_of (Watch watcher lower upper) is = absurd is
      set_of (Unsettled cand units) is = absurd is
      set_of (Unknown units) is = absurd is
      set_of Complete is = absurd is
      set_of Partial is = absurd is
      set_of Incoherent is = absurd is
      set_of NoMemory is = absurd is
      set_of (Refused one_line why value) is = absurd is

  -- the line of a candidate that is shown or proved is true
  true_gained : (mode : Mode) (pair : Pair) (answers : List Line) (proved : List ℕ) (line : Line)
      → All (GivesSet normal) answers → All (IsProvedCandidate normal mode) proved
      → IsGainedLine normal.names mode pair answers proved line → IsTrueLine normal mode line
  true_gained mode pair answers proved line gives sound gained =
      ⊎_elim
      (λ (shown : IsShownLine normal.names mode answers (cand_of line) line).
      let first = shown.shown in
      let all : All (GivesSet normal) (first.before ++ Answer shown.by first.set ∷ first.after) =
      subst (All (GivesSet normal)) first.parts gives in
      let answer : IsAnswerSetN normal first.set =
      All-head (GivesSet normal) (Answer shown.by first.set) first.after
      (All-right (GivesSet normal) first.before (Answer shown.by first.set ∷ first.after) all) in
      subst (IsTrueLine normal mode) (sym shown.line_is)
      (true_shown mode (cand_of line) shown.by first.set gained.unsettled.candidate answer
      first.shown))
      (λ (told : IsProvedLine mode proved (cand_of line) line).
      let (k, within, is) = told.has in
      subst (IsTrueLine normal mode) (sym told.line_is)
      (true_proved mode (cand_of line)
      (subst (IsProvedCandidate normal mode) is (sound k (cand_of line) within))))
      gained.told

  pub true_settled : (mode : Mode) (pair : Pair) (answers : List Line) (proved : List ℕ)
      (lines : List Line) → All (GivesSet normal) answers
      → All (IsProvedCandidate normal mode) proved
      → All (IsGainedLine normal.names mode pair answers proved) lines
      → All (IsTrueLine normal mode) lines
  true_settled mode pair answers proved lines gives sound each =
      λ k d within. true_gained mode pair answers proved (get_or lines k d) gives sound
      (each k d within)
