-- Own tests in another order.
use Rattle.std.proofs.Common.{◌≡◌, ◌≢◌, ◌≤◌, ◌<◌, ◌+◌, ◌==◌, ℕ, suc, Bool, true, List, [], ◌∷◌}
use Rattle.std.proofs.Common.{length}
use Rattle.std.proofs.Common.{get_or, map, refl, sym, ap, subst, ◌∙◌, inl, inr, arith}
use Rattle.std.specs.Prelude.{All, AllPairs, Contains, filter, IsPermutation}
use Rattle.std.specs.List.{AllZip}
use Rattle.std.specs.Bool.{Decides}
use Rattle.std.specs.List.Sorted.{IsNonDecreasingBy}
use Rattle.std.proofs.lemmas.Bool.{cases_Bool, eqb-true, eqb-false, eq-eqb, ne_eqb}
use Rattle.std.proofs.lemmas.Bool.Decides.{Decides-eqb}
use Rattle.std.proofs.lemmas.List.{get_or-map, length-map, get_or_default}
use Rattle.std.proofs.lemmas.List.Elements.{All-map, All-head, All-tail, All-filter, filter_passes}
use Rattle.std.proofs.lemmas.List.Kept.{AllPairs-cons, AllPairs-filter}
use Rattle.std.proofs.lemmas.List.Sorted.{IsPermutation-map, All-permutation, Contains-permutation}
use Rattle.std.proofs.lemmas.Map.Keys.{IsDistinct-IsPermutation}
use Rattle.std.proofs.lemmas.Map.Made.{AllPairs-from_IsDistinct, IsDistinct-from_AllPairs}
use Rattle.ground_program.specs.declared.pair.Pair.{Pair}
use Rattle.normal_program.specs.declared.spent.SpentTest.{SpentTest}
use Rattle.master_record.specs.declared.own.OwnTest.{OwnTest}
use Rattle.master_record.specs.Course.{is_open}
use Rattle.master_record.specs.Books.{open_own}
use Rattle.master_record.specs.Sound.{AreDistinct}
use Rattle.master_record.specs.Verdicts.{AreOwnTests, IsTestOf}
use Rattle.master_record.proofs.LeftLemmas.{any_filtered}

-- pairs of values of a function
all_pairs_map : {X Y : Type 0} (R : Y → Y → Type 0) (f : X → Y) (xs : List X)
    → AllPairs (λ one two. R (f one) (f two)) xs → AllPairs R (map f xs)
all_pairs_map R f [] pairs = λ i j d before within. absurd (omega (arith, within))
all_pairs_map R f (x ∷ xs) pairs =
    AllPairs-cons R (f x) (map f xs)
    (All-map (R (f x)) f xs (λ k d within. pairs 0 (suc k) d (omega arith) (omega arith)))
    (all_pairs_map R f xs
    (λ i j d before within. pairs (suc i) (suc j) d (omega arith) (omega arith)))

-- and back
all_pairs_of_map : {X Y : Type 0} (R : Y → Y → Type 0) (f : X → Y) (xs : List X)
    → AllPairs R (map f xs) → AllPairs (λ one two. R (f one) (f two)) xs
all_pairs_of_map R f xs pairs = λ i j d before within.
    subst (λ one. R one (f (get_or xs j d))) (get_or-map f xs i d (f d) (omega arith))
    (subst (R (get_or (map f xs) i (f d))) (get_or-map f xs j d (f d) within)
    (pairs i j (f d) before (omega (arith, within, length-map xs f))))

flips : (one two : ℕ) → (one == two) ≡ (two == one)
flips one two =
    elim (cases_Bool (one == two)) [
      | inl same ↦ same ∙ sym (eq-eqb two one (sym (eqb-true one two same)))
      | inr other ↦ other ∙ sym (ne_eqb two one (λ e. eqb-false one two other (sym e)))
    ]

-- no candidate twice in another order
pub distinct_permutation : (xs ys : List OwnTest) → IsPermutation xs ys → AreDistinct xs
    → AreDistinct ys
distinct_permutation xs ys same distinct =
    let cand : OwnTest → ℕ = λ one. one.cand in
    all_pairs_of_map (λ one two. one ≢ two) cand ys
    (AllPairs-from_IsDistinct Decides-eqb (map cand ys)
    (IsDistinct-IsPermutation ◌==◌ flips (map cand xs) (map cand ys)
    (IsPermutation-map cand xs ys same)
    (IsDistinct-from_AllPairs Decides-eqb (map cand xs)
    (all_pairs_map (λ one two. one ≢ two) cand xs distinct))))

-- what is sorted and has none twice ascends
pub ascending_from : (own : List OwnTest) → IsNonDecreasingBy (λ (one : OwnTest). one.cand) own
    → AreDistinct own → AllPairs (λ (earlier later : OwnTest). earlier.cand < later.cand) own
ascending_from own sorted distinct = λ i j d before within.
    let low : (get_or own i d).cand ≤ (get_or own j d).cand =
    sorted i j d (omega arith) within in
    let differ : (get_or own i d).cand ≢ (get_or own j d).cand = distinct i j d before within in
    omega arith

-- an item that passes is among those that pass
pub has_filtered : {X : Type 0} (p : X → Bool) (xs : List X) (x : X) → p x ≡ true → Contains xs x
    → Contains (filter p xs) x
has_filtered {X = X} p xs x passes (k, within, is) =
    let (j, y, less, at, same) =
    any_filtered (λ (y : X). y ≡ x) p
    (λ y here. subst (λ (z : X). p z ≡ true) (sym here) passes) xs
    (k, x, within, is, refl) in
    (j, less, subst (λ (z : X). get_or (filter p xs) j z ≡ z) same at)

-- and its value among the values
has_mapped : {X Y : Type 0} (f : X → Y) (xs : List X) (x : X) → Contains xs x
    → Contains (map f xs) (f x)
has_mapped f xs x (k, within, is) = (
  k,
  subst (λ n. k < n) (sym (length-map xs f)) within,
  get_or-map f xs k x (f x) within ∙ ap f is,
)

-- each item is in its list
each_is : (xs : List OwnTest) → All (Contains xs) xs
each_is xs = λ k d within. (k, within, get_or_default xs k (get_or xs k d) d within)

-- tests beside their candidates
zip_maps : (own xs : List OwnTest) → All (Contains own) xs
    → AllZip (IsTestOf own) (map (λ (one : OwnTest). one.cand) xs)
    (map (λ (one : OwnTest). one.test) xs)
zip_maps own [] each = tt
zip_maps own (one ∷ xs) each =
    (All-head (Contains own) one xs each, zip_maps own xs (All-tail (Contains own) one xs each))

-- the tests of unsettled candidates, gathered from a sorted list
pub own_tests : (pair : Pair) (raw sorted : List OwnTest) (tests : List SpentTest)
    → IsPermutation raw sorted
    → AllPairs (λ (earlier later : OwnTest). earlier.cand < later.cand) sorted
    → tests ≡ map (λ (one : OwnTest). one.test) (open_own pair sorted)
    → AreOwnTests (open_own pair raw) tests
own_tests pair raw sorted tests same ascending is =
    let p : OwnTest → Bool = λ one. is_open pair one.cand in
    let shown : List OwnTest = open_own pair sorted in
    subst (AreOwnTests (open_own pair raw)) (sym is)
    (record {
      cands = map (λ (one : OwnTest). one.cand) shown;
      ascending = all_pairs_map (λ (earlier later : ℕ). earlier < later)
          (λ (one : OwnTest). one.cand) shown
          (AllPairs-filter (λ (earlier later : OwnTest). earlier.cand < later.cand) p sorted
          ascending);
      each = zip_maps (open_own pair raw) shown
          (λ k d within. has_filtered p raw (get_or shown k d) (filter_passes p sorted k d within)
          (All-filter p (Contains raw) sorted
          (All-permutation (Contains raw) raw sorted same (each_is raw)) k d within));
      all = λ k d within.
          let one : OwnTest = get_or (open_own pair raw) k d in
          has_mapped (λ (item : OwnTest). item.cand) shown one
          (has_filtered p sorted one (filter_passes p raw k d within)
          (Contains-permutation raw sorted one same
          (All-filter p (Contains raw) raw (each_is raw) k d within)));
    })
