-- The lines of candidates, one place on.
use Rattle.std.proofs.Common.{◌≤◌, ◌<◌, ◌+◌, ℕ, List, [], ◌∷◌, ◌++◌, length, get_or, take, sym}
use Rattle.std.proofs.Common.{subst, ◌∙◌, arith, length-take}
use Rattle.std.specs.Prelude.{All}
use Rattle.std.specs.List.Sorted.{IsNonDecreasing}
use Rattle.std.proofs.lemmas.List.{take_more, take_all, get_or-take, get_or_default}
use Rattle.ground_program.specs.declared.program.Named.{Named}
use Rattle.ground_program.specs.declared.program.Mode.{Mode}
use Rattle.ground_program.specs.declared.pair.Pair.{Pair}
use Rattle.ground_program.specs.Bounds.{IsCandidate}
use Rattle.report.specs.declared.lines.Line.{Line}
use Rattle.master_record.specs.Settling.{IsDue, IsDueLine, AreSettledAmong}
use Rattle.master_record.proofs.SettledLemmas.{AreSoFar, so_far_again, so_far_skipped, so_far_told}

module _ (names : List Named) (mode : Mode) (pair : Pair) (answers : List Line)
    (proved looked : List ℕ) (last : ℕ) (lines : List Line) where
  -- all of them were looked at
  pub so_far_all : (at : ℕ) → length looked ≤ at
      → AreSoFar names mode pair answers proved (take at looked) last lines
      → AreSettledAmong names mode pair answers proved looked lines
  so_far_all at past sofar =
      let all : AreSoFar names mode pair answers proved looked last lines =
      subst (λ (xs : List ℕ). AreSoFar names mode pair answers proved xs last lines)
      (take_all at looked past) sofar in
      record { ascending = all.ascending; each = all.each; all = all.all }

  module _ (at : ℕ) (within : at < length looked) (ascending : IsNonDecreasing looked)
      (sofar : AreSoFar names mode pair answers proved (take at looked) last lines) where
    abbrev cand : ℕ
    cand = get_or looked at 0

    -- those before aren't greater
    before : All (λ other. other ≤ cand) (take at looked)
    before = λ k d inside.
        let less : k < at = omega (arith, inside, length-take at looked) in
        subst (λ n. n ≤ cand)
        (sym (get_or-take at looked k d less ∙ get_or_default looked k d 0 (omega arith)))
        (ascending k at 0 (omega arith) within)

    further : (now : ℕ) (more : List Line)
        → AreSoFar names mode pair answers proved (take at looked ++ cand ∷ []) now more
        → AreSoFar names mode pair answers proved (take (at + 1) looked) now more
    further now more =
        subst (λ (xs : List ℕ). AreSoFar names mode pair answers proved xs now more)
        (sym (take_more looked at 0 within))

    -- the next one came before
    pub again_here : All (IsCandidate names) looked → cand ≤ last
        → AreSoFar names mode pair answers proved (take (at + 1) looked) last lines
    again_here candidates behind =
        further last lines
        (so_far_again names mode pair answers proved (take at looked) last lines sofar cand
        (candidates at 0 within).first behind before)

    -- or isn't due
    pub skipped_here : ¬ IsDue names mode pair answers proved cand
        → AreSoFar names mode pair answers proved (take (at + 1) looked) last lines
    skipped_here undue =
        further last lines
        (so_far_skipped names mode pair answers proved (take at looked) last lines sofar cand undue)

    -- or has its line
    pub told_here : (line : Line) → last < cand
        → IsDueLine names mode pair answers proved cand line
        → AreSoFar names mode pair answers proved (take (at + 1) looked) cand (lines ++ line ∷ [])
    told_here line more due =
        further cand (lines ++ line ∷ [])
        (so_far_told names mode pair answers proved (take at looked) last lines sofar cand line more
        due.unsettled due.told)
