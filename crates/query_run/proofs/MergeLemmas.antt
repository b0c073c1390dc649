-- What a merge makes of the candidates.
use Rattle.std.proofs.Common.{◌≡◌, ◌≤◌, ◌+◌, ◌-◌, ℕ, zero, suc, Bool, true}
use Rattle.std.proofs.Common.{false, List, [], ◌∷◌, ◌++◌, length, refl, sym, ap, subst}
use Rattle.std.proofs.Common.{⊎_elim, inl, inr, arith}
use Rattle.std.specs.Prelude.{Any, Contains}
use Rattle.ground_program.specs.declared.program.Mode.{Mode}
use Rattle.ground_program.specs.declared.program.Mode.TheVariants.{Cautious, Brave}
use Rattle.ground_program.specs.declared.program.Named.{Named}
use Rattle.ground_program.specs.declared.pair.Pair.{Pair}
use Rattle.ground_program.specs.Bounds.{IsCandidate, Shows}
use Rattle.normal_program.specs.declared.normal.Normal.{Normal}
use Rattle.report.specs.declared.lines.Line.{Line}
use Rattle.report.specs.declared.lines.Line.TheVariants.{Answer}
use Rattle.report.specs.Legal.{IsShownBy, IsSettled, Settles}
use Rattle.worker_jobs.specs.declared.gain.Gain.{Gain}
use Rattle.worker_jobs.specs.Gain.{IsTrueGain, HasGained}
use Rattle.master_record.specs.Course.{IsOpenIn, is_open, is_open_at, with_lines}
use Rattle.master_record.specs.Books.{Books}
use Rattle.master_record.specs.Settling.{AreAnswers, IsGainedLine, cand_of}
use Rattle.master_record.specs.Settling.{IsShownLine, IsProvedLine, shown_line, proved_line}
use Rattle.master_record.specs.Merging.{HasMerged}
use Rattle.master_record.specs.Sound.{IsSound}
use Rattle.master_record.specs.Told.{IsToldBy}
use Rattle.master_record.proofs.CourseLemmas.{was_open_all}
use Rattle.master_record.proofs.LawLemmas.{merges_told}
use Rattle.master_record.proofs.ToldLemmas.{any_later}

-- the line of a candidate that is shown or proved settles it
settles_shown : (mode : Mode) (cand by : ℕ) → Settles cand (shown_line mode cand by)
settles_shown Cautious cand by = refl
settles_shown Brave cand by = refl

settles_proved : (mode : Mode) (cand : ℕ) → Settles cand (proved_line mode cand)
settles_proved Cautious cand = refl
settles_proved Brave cand = refl

settles_gained : (names : List Named) (mode : Mode) (pair : Pair) (answers : List Line)
    (proved : List ℕ) (line : Line) (cand : ℕ) → cand_of line ≡ cand
    → IsGainedLine names mode pair answers proved line → Settles cand line
settles_gained names mode pair answers proved line cand same is =
    subst (λ n. Settles n line) same
    (⊎_elim
    (λ (shown : IsShownLine names mode answers (cand_of line) line).
    subst (Settles (cand_of line)) (sym shown.line_is)
    (settles_shown mode (cand_of line) shown.by))
    (λ (is_proved : IsProvedLine mode proved (cand_of line) line).
    subst (Settles (cand_of line)) (sym is_proved.line_is)
    (settles_proved mode (cand_of line)))
    is.told)

module _ (names : List Named) (mode : Mode) (pair : Pair) (cand : ℕ)
    (unsettled : IsOpenIn names pair cand) where
  -- one line before others
  shown_behind : (line : Line) (rest : List Line) (by : ℕ) → IsShownBy names mode rest cand by
      → IsShownBy names mode (line ∷ rest) cand by
  shown_behind line rest by (k, other, within, is, gives) =
      (suc k, other, omega arith, is, gives)

  -- a set that shows an unsettled candidate is given
  pub given_where : (count : ℕ) (sets : List (List Bool)) (lines : List Line)
      → AreAnswers names mode pair count sets lines
      → Any (λ members. Shows names mode members cand) sets
      → (by : ℕ) × IsShownBy names mode lines cand by
  given_where count [] lines given (k, members, within, is, shows) =
      absurd (omega (arith, within))
  given_where count (first ∷ sets) lines (inl (news, (rest, parts, next))) (zero, members, within, is, shows) = (
    count + 1,
    subst (λ (xs : List Line). IsShownBy names mode xs cand (count + 1)) (sym parts) (
      0,
      Answer (count + 1) first,
      omega arith,
      refl,
      (refl, subst (λ (s : List Bool). Shows names mode s cand) (sym is) shows),
    ),
  )
  given_where count (first ∷ sets) lines (inl (news, (rest, parts, next))) (suc k, members, within, is, shows) =
      let (by, shown) = given_where (count + 1) sets rest next (k, members, omega arith, is, shows) in (
        by,
        subst (λ (xs : List Line). IsShownBy names mode xs cand by) (sym parts)
            (shown_behind (Answer (count + 1) first) rest by shown),
      )
  given_where count (first ∷ sets) lines (inr (old, next)) (zero, members, within, is, shows) =
      absurd (old (inr (record {
        cand = cand;
        unsettled = unsettled;
        shown = subst (λ (s : List Bool). Shows names mode s cand) (sym is) shows;
      })))
  given_where count (first ∷ sets) lines (inr (old, next)) (suc k, members, within, is, shows) =
      given_where count sets lines next (k, members, omega arith, is, shows)

-- the first set of all is given
pub first_given : (names : List Named) (mode : Mode) (pair : Pair) (sets : List (List Bool))
    (lines : List Line) → AreAnswers names mode pair 0 sets lines → 1 ≤ length sets
    → 1 ≤ length lines
first_given names mode pair [] lines given some = absurd (omega (arith, some))
first_given names mode pair (first ∷ sets) lines (inl (news, (rest, parts, next))) some =
    let long : length lines ≡ suc (length rest) = ap (λ (xs : List Line). length xs) parts in
    omega (arith, long)
first_given names mode pair (first ∷ sets) lines (inr (old, next)) some = absurd (old (inl refl))

module _ (old new : Books) (gain : Gain) (lines before : List Line) (sound : IsSound old)
    (is_true : IsTrueGain old.normal old.mode gain) (tells : IsToldBy before old)
    (merge : HasMerged old 1 gain lines new) where
  -- the record knows these lines too
  pub now_told : IsToldBy (before ++ lines) new
  now_told = merges_told before lines old new 1 gain sound is_true tells merge

  pub pair_is : new.pair ≡ with_lines old.pair lines
  pair_is = ap (λ (b : Books). b.pair) merge.after

  pub normal_is : new.normal ≡ old.normal
  normal_is = ap (λ (b : Books). b.normal) merge.after

  pub mode_is : new.mode ≡ old.mode
  mode_is = ap (λ (b : Books). b.mode) merge.after

  pub answers_are : new.answers ≡ old.answers + length merge.answers
  answers_are = ap (λ (b : Books). b.answers) merge.after

  -- what is open was open
  pub was_open : (cand : ℕ) → is_open new.pair cand ≡ true → is_open old.pair cand ≡ true
  was_open cand is =
      was_open_all old.pair lines (cand - 1)
      (subst (λ (p : Pair). is_open_at p (cand - 1) ≡ true) pair_is is)

  -- a candidate that is settled by the lines isn't open
  closed : (cand : ℕ) → IsCandidate old.normal.names cand → IsSettled merge.settled cand
      → is_open new.pair cand ≡ false
  closed cand candidate settled =
      (now_told.settled cand
      (subst (λ (n : Normal). IsCandidate n.names cand) (sym normal_is) candidate)).0
      (any_later (Settles cand) before lines
      (subst (Any (Settles cand)) (sym merge.parts)
      (any_later (Settles cand) merge.answers merge.settled settled)))

  -- a proved one
  pub proved_closed : (cand : ℕ) → IsOpenIn old.normal.names old.pair cand
      → Contains gain.proved cand → is_open new.pair cand ≡ false
  proved_closed cand unsettled has =
      let (k, line, within, is, about) =
      merge.gained.all cand (record { unsettled = unsettled; gained = inr has }) in
      let each : IsGainedLine old.normal.names old.mode old.pair merge.answers gain.proved line =
      subst (IsGainedLine old.normal.names old.mode old.pair merge.answers gain.proved) is
      (merge.gained.each k line within) in
      closed cand unsettled.candidate (
        k,
        line,
        within,
        is,
        settles_gained old.normal.names old.mode old.pair merge.answers
            gain.proved line cand about each,
      )

  -- one that a set shows
  pub shown_closed : (cand : ℕ) → IsOpenIn old.normal.names old.pair cand
      → Any (λ members. Shows old.normal.names old.mode members cand) gain.sets
      → is_open new.pair cand ≡ false
  shown_closed cand unsettled found =
      let (by, shown) =
      given_where old.normal.names old.mode old.pair cand unsettled old.answers gain.sets
      merge.answers merge.given found in
      let (k, line, within, is, about) =
      merge.gained.all cand (record { unsettled = unsettled; gained = inl (by, shown) }) in
      let each : IsGainedLine old.normal.names old.mode old.pair merge.answers gain.proved line =
      subst (IsGainedLine old.normal.names old.mode old.pair merge.answers gain.proved) is
      (merge.gained.each k line within) in
      closed cand unsettled.candidate (
        k,
        line,
        within,
        is,
        settles_gained old.normal.names old.mode old.pair merge.answers
            gain.proved line cand about each,
      )

  -- each that was gained
  pub gained_closed : (cand : ℕ) → IsOpenIn old.normal.names old.pair cand
      → HasGained old.normal.names old.mode gain cand → is_open new.pair cand ≡ false
  gained_closed cand unsettled gained =
      ⊎_elim (shown_closed cand unsettled) (proved_closed cand unsettled) gained

  -- where no answer set was known and the gain has one, one is known
  pub now_answered : old.answers ≡ 0 → 1 ≤ length gain.sets → 1 ≤ new.answers
  now_answered none some =
      let given : AreAnswers old.normal.names old.mode old.pair 0 gain.sets merge.answers =
      subst (λ n. AreAnswers old.normal.names old.mode old.pair n gain.sets merge.answers) none
      merge.given in
      let more : 1 ≤ length merge.answers =
      first_given old.normal.names old.mode old.pair gain.sets merge.answers given some in
      omega (arith, answers_are, more)
