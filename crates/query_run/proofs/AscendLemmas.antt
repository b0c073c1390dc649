-- Ascending lists with the same numbers are the same.
use Rattle.std.proofs.Common.{◌≡◌, ◌<◌, ◌+◌, ◌⊎◌, ℕ, zero, suc, List, [], ◌∷◌}
use Rattle.std.proofs.Common.{length, get_or, refl, sym, ap, subst, ⊎_elim, inl, inr, arith}
use Rattle.std.specs.Prelude.{AllPairs, Contains, ◌↔◌}
use Rattle.std.specs.List.{range_with_len}
use Rattle.std.specs.List.Sorted.{IsStrictlyIncreasing}
use Rattle.std.proofs.lemmas.List.FromFn.{get_or-range_with_len, length-range_with_len}

-- an item of a list is the first, or one of the rest
contains_parts : (x : ℕ) (xs : List ℕ) (z : ℕ) → Contains (x ∷ xs) z → (x ≡ z) ⊎ Contains xs z
contains_parts x xs z (zero, within, is) = inl is
contains_parts x xs z (suc k, within, is) = inr (k, omega arith, is)

-- the rest of ascending lists ascends, and the first is below it
tail_ascends : (x : ℕ) (xs : List ℕ) → AllPairs (λ a b. a < b) (x ∷ xs) → AllPairs (λ a b. a < b) xs
tail_ascends x xs pairs = λ i j d less within. pairs (suc i) (suc j) d (omega arith) (omega arith)

first_below : (x : ℕ) (xs : List ℕ) (z : ℕ) → AllPairs (λ a b. a < b) (x ∷ xs) → Contains xs z
    → x < z
first_below x xs z pairs (k, within, is) =
    let less : x < get_or xs k z = pairs 0 (suc k) z (omega arith) (omega arith) in
    omega (arith, less, is)

pub same_ascending : (xs ys : List ℕ) → AllPairs (λ a b. a < b) xs → AllPairs (λ a b. a < b) ys
    → ((z : ℕ) → Contains xs z ↔ Contains ys z) → xs ≡ ys
same_ascending [] [] one two same = refl
same_ascending [] (y ∷ ys) one two same =
    let (k, within, is) = (same y).1 (0, omega arith, refl) in absurd (omega (arith, within))
same_ascending (x ∷ xs) [] one two same =
    let (k, within, is) = (same x).0 (0, omega arith, refl) in absurd (omega (arith, within))
same_ascending (x ∷ xs) (y ∷ ys) one two same =
    let first : x ≡ y = firsts in
    subst (λ n. x ∷ xs ≡ n ∷ ys) first
    (ap (λ (zs : List ℕ). x ∷ zs)
    (same_ascending xs ys (tail_ascends x xs one) (tail_ascends y ys two)
    (λ z. (
      λ has. ⊎_elim
          (λ (e : y ≡ z). let less : x < z = first_below x xs z one has in
          absurd (omega (arith, less, e, first)))
          (λ there. there)
          (contains_parts y ys z ((same z).0 (later x xs z has))),
      λ has. ⊎_elim
          (λ (e : x ≡ z). let less : y < z = first_below y ys z two has in
          absurd (omega (arith, less, e, first)))
          (λ there. there)
          (contains_parts x xs z ((same z).1 (later y ys z has))),
    ))))
  where
    later : (w : ℕ) (ws : List ℕ) (z : ℕ) → Contains ws z → Contains (w ∷ ws) z
    later w ws z (k, within, is) = (suc k, omega arith, is)

    firsts : x ≡ y
    firsts =
        ⊎_elim
        (λ (e : y ≡ x). sym e)
        (λ there. ⊎_elim
        (λ (e : x ≡ y). e)
        (λ here.
        let low : y < x = first_below y ys x two there in
        let high : x < y = first_below x xs y one here in
        absurd (omega (arith, low, high)))
        (contains_parts x xs y ((same y).1 (0, omega arith, refl))))
        (contains_parts y ys x ((same x).0 (0, omega arith, refl)))

-- numbers from one on ascend
pub range_increases : (a n : ℕ) → IsStrictlyIncreasing (range_with_len a n)
range_increases a n k within =
    let long : length (range_with_len a n) ≡ n = length-range_with_len a n in
    let here : get_or (range_with_len a n) k 0 ≡ a + k =
    get_or-range_with_len a n k 0 (omega (arith, within, long)) in
    let next : get_or (range_with_len a n) (k + 1) 0 ≡ a + (k + 1) =
    get_or-range_with_len a n (k + 1) 0 (omega (arith, within, long)) in
    omega (arith, here, next)
