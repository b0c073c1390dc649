-- Searches in sorted numbers, and least places.
use Rattle.std.proofs.Common.{◌≡◌, ◌≢◌, ◌≤◌, ◌<◌, ◌+◌, ◌-◌, ℕ, zero, suc, Bool, true, false, not}
use Rattle.std.proofs.Common.{List, []}
use Rattle.std.proofs.Common.{◌∷◌, length, get_or, refl, sym, ap, subst, ◌∙◌, ⊎_elim, arith}
use Rattle.std.proofs.Common.{true≢false}
use Rattle.std.proofs.Common.{inl, inr, ◌⊎◌, Result, Ok, Err, nat_eq, eq-eqb, eqb-true, cond}
use Rattle.std.specs.Prelude.{Contains, Any, IsTrue, ◌↔◌, is_ok, filter, Vec}
use Rattle.std.specs.Ordering.{nat_cmp}
use Rattle.std.specs.List.Sorted.{IsNonDecreasing, IsBinarySearchResult}
use Rattle.std.proofs.lemmas.List.Sorted.{searched}
use Rattle.std.proofs.lemmas.List.{get_or_default}
use Rattle.std.proofs.lemmas.Bool.{cases_lt, cases_eq}
use Rattle.ground_program.specs.declared.pair.Pair.{Pair}
use Rattle.ground_program.specs.declared.program.Named.{Named}
use Rattle.ground_program.specs.Bounds.{IsCandidate}
use Rattle.master_record.specs.declared.own.OwnTest.{OwnTest}
use Rattle.master_record.specs.Course.{IsOpenIn, IsLeast, is_open, is_open_at, is_left_at}
use Rattle.master_record.specs.Books.{Books, open_own}
use Rattle.master_record.specs.Verdicts.{IsFinished, IsTested}
use Rattle.master_record.specs.Sound.{IsLeftAt}
use Rattle.master_record.proofs.CourseLemmas.{and_left, and_right, and_both, not_true, true_not}
use Rattle.master_record.proofs.CourseLemmas.{not_so}

-- a number is found just where it is there
pub found_iff : (xs : List ℕ) (x : ℕ) (r : Result ℕ ℕ) (b : Bool) → b ≡ is_ok r
    → IsBinarySearchResult (λ y. nat_cmp y x) xs r → IsNonDecreasing xs
    → (IsTrue b ↔ Contains xs x)
found_iff xs x (Ok at) b is position sorted =
    let found = searched xs x (Ok at) position (λ i j le within. sorted i j 0 le within) in (
      λ so. (at, found.0, get_or_default xs at x 0 found.0 ∙ found.1),
      λ has. is,
    )
found_iff xs x (Err at) b is position sorted =
    let found = searched xs x (Err at) position (λ i j le within. sorted i j 0 le within) in (
      λ so. absurd (true≢false (sym so ∙ is)),
      λ (k, within, holds).
          let value : get_or xs k 0 ≡ x = sym (get_or_default xs k x 0 within) ∙ holds in
          absurd (⊎_elim
          (λ low. let less : get_or xs k 0 < x = found.1 k low in omega arith)
          (λ high. let more : x < get_or xs k 0 = found.2 k high within in omega arith)
          (cases_lt k at)),
    )

-- a place that is unsettled is that of an unsettled candidate
pub open_at_place : (names : List Named) (pair : Pair) (place : ℕ) → place < length names
    → is_open_at pair place ≡ true → IsOpenIn names pair (place + 1)
open_at_place names pair place within is =
    let same : place ≡ place + 1 - 1 = omega arith in
    let there : is_open pair (place + 1) ≡ true =
    subst (λ n. is_open_at pair n ≡ true) same is in
    let low : Bool = get_or pair.lower (place + 1 - 1) false in
    let up : Bool = get_or pair.upper (place + 1 - 1) false in
    record {
      candidate = record { first = omega arith; last = omega arith };
      unproved = λ has. true≢false (sym has ∙ not_true low (and_left (not low) up there));
      possible = and_right (not low) up there;
    }

pub is_open_of : (names : List Named) (pair : Pair) (cand : ℕ) → IsOpenIn names pair cand
    → is_open pair cand ≡ true
is_open_of names pair cand unsettled =
    let low : Bool = get_or pair.lower (cand - 1) false in
    and_both (not low) (get_or pair.upper (cand - 1) false)
    (true_not low (not_so low unsettled.unproved)) unsettled.possible

module _ (books : Books) (count place : ℕ) (all : count ≡ length books.normal.names) where
  -- every candidate is settled just where no place is unsettled
  pub finished_iff : IsLeast (is_open_at books.pair) count place → 1 ≤ books.answers
      → (IsTrue (nat_eq place count) ↔ IsFinished books)
  finished_iff least answered = (
    λ end.
        let same : place ≡ count = eqb-true place count end in
        record {
          answered = answered;
          settled = λ cand unsettled.
              let first : 1 ≤ cand = unsettled.candidate.first in
              let last : cand ≤ length books.normal.names = unsettled.candidate.last in
              true≢false (sym (is_open_of books.normal.names books.pair cand unsettled)
              ∙ least.before (cand - 1) (omega arith));
        },
    λ finished.
        ⊎_elim
        (λ less. absurd (finished.settled (place + 1)
        (open_at_place books.normal.names books.pair place (subst (λ n. place < n) all less)
        (least.here less))))
        (λ past. let within : place ≤ count = least.within in
        eq-eqb place count (omega arith))
        (cases_lt place count),
  )

-- some item of a filtered list is one of the list
pub any_unfiltered : {X : Type 0} (P : X → Type 0) (p : X → Bool) (xs : List X)
    → Any P (filter p xs) → Any P xs
any_unfiltered P p [] found = found
any_unfiltered P p (x ∷ xs) found =
    by_test (p x) refl (λ fewer. any_unfiltered P p xs fewer) found
  where
    later : Any P xs → Any P (x ∷ xs)
    later (k, y, within, is, holds) = (suc k, y, omega arith, is, holds)

    at_first : (Any P (filter p xs) → Any P xs) → Any P (x ∷ filter p xs) → Any P (x ∷ xs)
    at_first rest (zero, y, within, is, holds) = (0, y, omega arith, is, holds)
    at_first rest (suc k, y, within, is, holds) = later (rest (k, y, omega arith, is, holds))

    by_test : (b : Bool) → p x ≡ b → (Any P (filter p xs) → Any P xs)
        → Any P (filter p (x ∷ xs)) → Any P (x ∷ xs)
    by_test true is rest found_here =
        at_first rest
        (subst (λ (b : Bool). Any P (cond b (x ∷ filter p xs) (filter p xs))) is found_here)
    by_test false is rest found_here =
        later (rest
        (subst (λ (b : Bool). Any P (cond b (x ∷ filter p xs) (filter p xs))) is found_here))
