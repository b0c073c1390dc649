-- How many truth values are true once one is written.
use Rattle.std.proofs.Common.{◌≡◌, ◌<◌, ◌+◌, ℕ, Bool, true, false, cond, List, length, get_or, set}
use Rattle.std.proofs.Common.{ap, arith}
use Rattle.std.specs.Prelude.{count_by}
use Rattle.std.proofs.lemmas.List.Sums.{sum_by-set}

-- what a truth value adds to a count
abbrev counted : Bool → ℕ
counted b = cond b 1 0

module _ (xs : List Bool) (place : ℕ) (within : place < length xs) where
  pub more_true : get_or xs place false ≡ false
      → count_by (λ (bit : Bool). bit) (set xs place true) ≡ count_by (λ (bit : Bool). bit) xs + 1
  more_true was =
      let it : counted (get_or xs place false) ≡ 0 = ap counted was in
      omega (arith, it, sum_by-set counted xs place true false within)

  pub same_true : get_or xs place false ≡ true
      → count_by (λ (bit : Bool). bit) (set xs place true) ≡ count_by (λ (bit : Bool). bit) xs
  same_true was =
      let it : counted (get_or xs place false) ≡ 1 = ap counted was in
      omega (arith, it, sum_by-set counted xs place true false within)

  pub less_true : get_or xs place false ≡ true
      → count_by (λ (bit : Bool). bit) (set xs place false) + 1 ≡ count_by (λ (bit : Bool). bit) xs
  less_true was =
      let it : counted (get_or xs place false) ≡ 1 = ap counted was in
      omega (arith, it, sum_by-set counted xs place false false within)

  pub same_false : get_or xs place false ≡ false
      → count_by (λ (bit : Bool). bit) (set xs place false) ≡ count_by (λ (bit : Bool). bit) xs
  same_false was =
      let it : counted (get_or xs place false) ≡ 0 = ap counted was in
      omega (arith, it, sum_by-set counted xs place false false within)
