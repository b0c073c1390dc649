-- Whether an answer set shows an unsettled candidate, place by place.
use Rattle.std.proofs.Common.{◌≡◌, ◌≤◌, ◌<◌, ◌+◌, ◌-◌, ℕ, Bool, true, false, List, length, sym}
use Rattle.std.proofs.Common.{subst, ◌∙◌, ⊎_elim, arith, true≢false, [], ◌∷◌, ◌++◌, take}
use Rattle.std.proofs.Common.{get_or, ap}
use Rattle.std.proofs.lemmas.Bool.{cases_lt}
use Rattle.std.proofs.lemmas.List.{take_more}
use Rattle.report.specs.declared.lines.Line.{Line}
use Rattle.report.specs.declared.lines.Line.TheVariants.{Answer}
use Rattle.ground_program.specs.declared.program.Named.{Named}
use Rattle.ground_program.specs.declared.program.Mode.{Mode}
use Rattle.ground_program.specs.declared.pair.Pair.{Pair}
use Rattle.ground_program.specs.Bounds.{Shows}
use Rattle.master_record.specs.Course.{IsOpenIn, IsLeast, is_open, is_open_at}
use Rattle.master_record.specs.Settling.{ShowsOpenIn, IsNews, AreAnswers}
use Rattle.master_record.proofs.FoundLemmas.{open_at_place, is_open_of}
use Rattle.master_record.proofs.SettledLemmas.{answers_given, answers_dropped}

-- the set shows none of the unsettled candidates up to this one
pub record ShowsNone (names : List Named) (mode : Mode) (pair : Pair) (set : List Bool) (last : ℕ)
    : Type 0 where
  pub each : (cand : ℕ) → cand ≤ last → IsOpenIn names pair cand → ¬ Shows names mode set cand

module _ (names : List Named) (mode : Mode) (pair : Pair) (set : List Bool) where
  -- there is none before the least
  pub shows_none_before : (count place : ℕ) → IsLeast (is_open_at pair) count place
      → ShowsNone names mode pair set place
  shows_none_before count place least = record {
    each = λ cand within unsettled.
        let first : 1 ≤ cand = unsettled.candidate.first in
        absurd (true≢false (sym (is_open_of names pair cand unsettled)
        ∙ least.before (cand - 1) (omega arith)));
  }

  -- one more that is settled
  pub shows_none_shut : (place : ℕ) → ShowsNone names mode pair set place
      → is_open pair (place + 1) ≡ false → ShowsNone names mode pair set (place + 1)
  shows_none_shut place none shut = record {
    each = λ cand within unsettled.
        ⊎_elim
        (λ less. none.each cand (omega arith) unsettled)
        (λ past.
        let same : cand ≡ place + 1 = omega arith in
        absurd (true≢false (sym (is_open_of names pair cand unsettled)
        ∙ subst (λ n. is_open pair n ≡ false) (sym same) shut)))
        (cases_lt cand (place + 1));
  }

  -- or that it doesn't show
  pub shows_none_hidden : (place : ℕ) → ShowsNone names mode pair set place
      → (¬ Shows names mode set (place + 1)) → ShowsNone names mode pair set (place + 1)
  shows_none_hidden place none hidden = record {
    each = λ cand within unsettled.
        ⊎_elim
        (λ less. none.each cand (omega arith) unsettled)
        (λ past.
        let same : cand ≡ place + 1 = omega arith in
        subst (λ n. ¬ Shows names mode set n) (sym same) hidden)
        (cases_lt cand (place + 1));
  }

  -- none at all
  pub shows_none_open : (count : ℕ) → count ≡ length names → ShowsNone names mode pair set count
      → ¬ ShowsOpenIn names mode pair set
  shows_none_open count all none = λ news.
      let last : news.cand ≤ length names = news.unsettled.candidate.last in
      none.each news.cand (omega arith) news.unsettled news.shown

  -- one that it shows
  pub shows_here : (place : ℕ) → place < length names → is_open pair (place + 1) ≡ true
      → Shows names mode set (place + 1) → ShowsOpenIn names mode pair set
  shows_here place within is shown = record {
    cand = place + 1;
    unsettled = open_at_place names pair place within
        (subst (λ n. is_open_at pair n ≡ true) at is);
    shown = shown;
  }
    where
      at : place + 1 - 1 ≡ place
      at = omega arith

-- the lines of answer sets, one place on
module _ (names : List Named) (mode : Mode) (pair : Pair) (count : ℕ) (sets : List (List Bool))
    (at : ℕ) (set : List Bool) (within : at < length sets) (is : set ≡ get_or sets at set)
    (lines : List Line) (given : AreAnswers names mode pair count (take at sets) lines) (number : ℕ)
    (counted : number ≡ count + length lines) where
  further : take (at + 1) sets ≡ take at sets ++ set ∷ []
  further =
      take_more sets at set within
      ∙ ap (λ (one : List Bool). take at sets ++ one ∷ []) (sym is)

  pub given_here : IsNews names mode pair number set
      → AreAnswers names mode pair count (take (at + 1) sets)
      (lines ++ Answer (number + 1) set ∷ [])
  given_here news =
      subst (λ (xs : List (List Bool)).
      AreAnswers names mode pair count xs (lines ++ Answer (number + 1) set ∷ []))
      (sym further)
      (answers_given names mode pair set count (take at sets) lines number given counted news)

  pub dropped_here : (¬ IsNews names mode pair number set)
      → AreAnswers names mode pair count (take (at + 1) sets) lines
  dropped_here old =
      subst (λ (xs : List (List Bool)). AreAnswers names mode pair count xs lines) (sym further)
      (answers_dropped names mode pair set count (take at sets) lines number given counted old)
