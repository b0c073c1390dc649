-- Which candidates are open and untested.
use Rattle.std.proofs.Common.{◌≡◌, ◌≤◌, ◌<◌, ◌+◌, ◌-◌, ℕ, Bool, true, false, not, List, length}
use Rattle.std.proofs.Common.{get_or, sym, subst, ◌∙◌, ⊎_elim, arith, true≢false}
use Rattle.std.specs.Prelude.{Any, IsTrue, ◌↔◌}
use Rattle.std.proofs.lemmas.List.{get_or_past}
use Rattle.std.proofs.lemmas.Bool.{cases_lt}
use Rattle.ground_program.specs.declared.pair.Pair.{Pair}
use Rattle.ground_program.specs.declared.program.Named.{Named}
use Rattle.ground_program.specs.Bounds.{IsPairOver}
use Rattle.master_record.specs.declared.own.OwnTest.{OwnTest}
use Rattle.master_record.specs.Course.{IsOpenIn, IsLeast, is_open, is_open_at, is_left_at}
use Rattle.master_record.specs.Books.{Books, open_own}
use Rattle.master_record.specs.Sound.{IsLeftAt}
use Rattle.master_record.specs.Jobs.{IsUntested}
use Rattle.master_record.proofs.CourseLemmas.{and_right}
use Rattle.master_record.proofs.FoundLemmas.{open_at_place, is_open_of, any_unfiltered}
use Rattle.master_record.proofs.LeftLemmas.{any_filtered}

-- an unsettled place is one of the places
place_within : (names : List Named) (pair : Pair) (place : ℕ) → IsPairOver (length names) pair
    → is_open_at pair place ≡ true → place < length names
place_within names pair place over is =
    ⊎_elim (λ less. less)
    (λ past. absurd (true≢false (sym (and_right (not (get_or pair.lower place false))
    (get_or pair.upper place false) is)
    ∙ get_or_past pair.upper place false (subst (λ n. n ≤ place) (sym over.upper) past))))
    (cases_lt place (length names))

-- a number is that of an unsettled candidate just where its place is unsettled
pub open_iff : (names : List Named) (pair : Pair) (cand : ℕ) → IsPairOver (length names) pair
    → 1 ≤ cand → (IsTrue (is_open pair cand) ↔ IsOpenIn names pair cand)
open_iff names pair cand over first =
    let same : cand - 1 + 1 ≡ cand = omega arith in (
      λ is. subst (IsOpenIn names pair) same
          (open_at_place names pair (cand - 1) (place_within names pair (cand - 1) over is) is),
      λ unsettled. is_open_of names pair cand unsettled,
    )

module _ (books : Books) (left : List Bool) (raw : List OwnTest)
    (view : books.own ≡ open_own books.pair raw)
    (left_is : (at : ℕ) → IsLeftAt books.pair raw left at)
    (over : IsPairOver (length books.normal.names) books.pair) where
  -- a candidate is untested just where its place is left
  pub untested_iff : (cand : ℕ) → 1 ≤ cand
      → (IsTrue (is_left_at left (cand - 1)) ↔ IsUntested books cand)
  untested_iff cand first =
      let same : cand - 1 + 1 ≡ cand = omega arith in (
        λ is.
            let found = (left_is (cand - 1)).0 is in
            record {
              unsettled = (open_iff books.normal.names books.pair cand over first).0 found.0;
              unspent = λ tested. found.1
                  (subst (λ n. Any (λ (one : OwnTest). one.cand ≡ n) raw) (sym same)
                  (any_unfiltered (λ (one : OwnTest). one.cand ≡ cand)
                  (λ (one : OwnTest). is_open books.pair one.cand) raw
                  (subst (Any (λ (one : OwnTest). one.cand ≡ cand)) view tested)));
            },
        λ untested.
            let is : is_open books.pair cand ≡ true =
            is_open_of books.normal.names books.pair cand untested.unsettled in
            (left_is (cand - 1)).1 (
              is,
              λ tested. untested.unspent
                  (subst (Any (λ (one : OwnTest). one.cand ≡ cand)) (sym view)
                  (any_filtered (λ (one : OwnTest). one.cand ≡ cand)
                  (λ (one : OwnTest). is_open books.pair one.cand)
                  (λ one here. subst (λ n. is_open books.pair n ≡ true) (sym here) is) raw
                  (subst (λ n. Any (λ (one : OwnTest). one.cand ≡ n) raw) same tested))),
            ),
      )

  -- none is untested up to the least place that is left
  pub none_untested : (count least : ℕ) → IsLeast (is_left_at left) count least → (other : ℕ)
      → other ≤ least → ¬ IsUntested books other
  none_untested count least is other low untested =
      let first : 1 ≤ other = untested.unsettled.candidate.first in
      true≢false (sym ((untested_iff other first).1 untested) ∙ is.before (other - 1) (omega arith))
