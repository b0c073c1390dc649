-- How many pass a test that becomes stricter.
use Rattle.std.proofs.Common.{◌≡◌, ◌≤◌, ◌<◌, ℕ, zero, suc, Bool, true, false, cond, List, []}
use Rattle.std.proofs.Common.{◌∷◌, refl, ap, ◌∙◌, arith}
use Rattle.std.specs.Prelude.{count_by, Contains}
use Rattle.std.proofs.lemmas.List.Sums.{sum_by-cons}

-- what a truth value adds to a count
abbrev counted : Bool → ℕ
counted b = cond b 1 0

counted_less : (few many : Bool) → (few ≡ true → many ≡ true) → counted few ≤ counted many
counted_less true many weaker = let is : counted many ≡ 1 = ap counted (weaker refl) in omega (arith, is)
counted_less false many weaker = omega arith

module _ {X : Type 0} (p q : X → Bool) (weaker : (x : X) → q x ≡ true → p x ≡ true) where
  -- no more pass
  pub count_fewer : (xs : List X) → count_by q xs ≤ count_by p xs
  count_fewer [] = omega arith
  count_fewer (x ∷ xs) =
      let rest : count_by q xs ≤ count_by p xs = count_fewer xs in
      let here : counted (q x) ≤ counted (p x) = counted_less (q x) (p x) (weaker x) in
      omega (
        arith,
        rest,
        here,
        sum_by-cons (λ (y : X). counted (q y)) x xs,
        sum_by-cons (λ (y : X). counted (p y)) x xs,
      )

  -- and fewer where one that passed doesn't any more
  pub count_strict : (xs : List X) (x : X) → Contains xs x → p x ≡ true → q x ≡ false
      → count_by q xs < count_by p xs
  count_strict [] x (k, within, is) was now = absurd (omega (arith, within))
  count_strict (y ∷ xs) x (zero, within, is) was now =
      let rest : count_by q xs ≤ count_by p xs = count_fewer xs in
      let here : counted (q y) ≡ 0 = ap (λ (z : X). counted (q z)) is ∙ ap counted now in
      let then : counted (p y) ≡ 1 = ap (λ (z : X). counted (p z)) is ∙ ap counted was in
      omega (
        arith,
        rest,
        here,
        then,
        sum_by-cons (λ (z : X). counted (q z)) y xs,
        sum_by-cons (λ (z : X). counted (p z)) y xs,
      )
  count_strict (y ∷ xs) x (suc k, within, is) was now =
      let rest : count_by q xs < count_by p xs = count_strict xs x (k, omega arith, is) was now in
      let here : counted (q y) ≤ counted (p y) = counted_less (q y) (p y) (weaker y) in
      omega (
        arith,
        rest,
        here,
        sum_by-cons (λ (z : X). counted (q z)) y xs,
        sum_by-cons (λ (z : X). counted (p z)) y xs,
      )
