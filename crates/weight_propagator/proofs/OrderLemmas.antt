-- Literals in the order of their weights.
use Rattle.std.proofs.Common.{◌≡◌, ◌≢◌, ◌<◌, ◌==◌, ℕ, suc, Bool, List, [], ◌∷◌, length}
use Rattle.std.proofs.Common.{get_or, map, sym, ap, ◌∙◌, subst, inl, inr, arith}
use Rattle.std.proofs.Common.{take, length-take}
use Rattle.std.specs.Prelude.{All, AllPairs, Any, IsPermutation}
use Rattle.std.specs.Ordering.{nat_cmp, is_lt}
use Rattle.std.specs.Bool.{Decides}
use Rattle.std.specs.Cmp.{IsStrictWeakOrder}
use Rattle.std.specs.List.Sorted.{IsSortedBy}
use Rattle.std.proofs.lemmas.Bool.{cases_Bool, cases_lt, eqb-true, eqb-false, eq-eqb, ne_eqb}
use Rattle.std.proofs.lemmas.Cmp.{nat_cmp_total}
use Rattle.std.proofs.lemmas.List.{get_or-map, get_or-take, get_or_default, length-map}
use Rattle.std.proofs.lemmas.List.Elements.{All-map}
use Rattle.std.proofs.lemmas.List.Kept.{AllPairs-cons}
use Rattle.std.proofs.lemmas.List.MinMax.{IsStrictWeakOrder-flip, ranks_by}
use Rattle.std.proofs.lemmas.List.Sorted.{Contains-permutation, IsPermutation-map, sorted_far}
use Rattle.std.proofs.lemmas.Map.Keys.{IsDistinct-IsPermutation, ge_from_not_lt}
use Rattle.std.proofs.lemmas.Map.Made.{AllPairs-from_IsDistinct, IsDistinct-from_AllPairs}
use Rattle.clause_store.specs.declared.literal.Lit.{Lit}
use Rattle.clause_store.specs.declared.literal.Value.TheVariants.{Unset}
use Rattle.clause_store.specs.declared.step.Step.{Step}
use Rattle.clause_store.specs.Trail.{value_of}
use Rattle.clause_store.proofs.LiteralLemmas.{any_from, lit_of_code}
use Rattle.weight_propagator.specs.declared.row.Term.{Term}
use Rattle.weight_propagator.specs.Rows.{IsDescending}

-- what is somewhere in a list is so in another order
pub any_permutation : {X : Type 0} (P : X → Type 0) (xs ys : List X) → IsPermutation xs ys
    → Any P xs → Any P ys
any_permutation P xs ys same (k, x, within, at, holds) =
    any_from P ys x (Contains-permutation xs ys x same (k, within, at)) holds

-- ---- no literal twice

-- pairs of values of a function
pub all_pairs_map : {X Y : Type 0} (R : Y → Y → Type 0) (f : X → Y) (xs : List X)
    → AllPairs (λ one two. R (f one) (f two)) xs → AllPairs R (map f xs)
all_pairs_map R f [] pairs = λ i j d before within. absurd (omega (arith, within))
all_pairs_map R f (x ∷ xs) pairs =
    AllPairs-cons R (f x) (map f xs)
    (All-map (R (f x)) f xs (λ k d within. pairs 0 (suc k) d (omega arith) (omega arith)))
    (all_pairs_map R f xs
    (λ i j d before within. pairs (suc i) (suc j) d (omega arith) (omega arith)))

-- and back
all_pairs_of_map : {X Y : Type 0} (R : Y → Y → Type 0) (f : X → Y) (xs : List X)
    → AllPairs R (map f xs) → AllPairs (λ one two. R (f one) (f two)) xs
all_pairs_of_map R f xs pairs = λ i j d before within.
    subst (λ one. R one (f (get_or xs j d))) (get_or-map f xs i d (f d) (omega arith))
    (subst (R (get_or (map f xs) i (f d))) (get_or-map f xs j d (f d) within)
    (pairs i j (f d) before (omega (arith, within, length-map xs f))))

abbrev same_code : Lit → Lit → Bool
same_code one two = one.0 == two.0

same_code_flips : (one two : Lit) → same_code one two ≡ same_code two one
same_code_flips one two =
    elim (cases_Bool (one.0 == two.0)) [
      | inl same ↦ same ∙ sym (eq-eqb two.0 one.0 (sym (eqb-true one.0 two.0 same)))
      | inr other ↦
          other ∙ sym (ne_eqb two.0 one.0 (λ e. eqb-false one.0 two.0 other (sym e)))
    ]

same_code_decides : (one two : Lit) → Decides (same_code one two) (one ≡ two)
same_code_decides one two = (
  λ same. lit_of_code one two (eqb-true one.0 two.0 same),
  λ same. eq-eqb one.0 two.0 (ap (λ (lit : Lit). lit.0) same),
)

-- no literal stands twice in another order
pub distinct_permutation : (xs ys : List Term) → IsPermutation xs ys
    → AllPairs (λ one two. one.lit ≢ two.lit) xs → AllPairs (λ one two. one.lit ≢ two.lit) ys
distinct_permutation xs ys same distinct =
    let lit : Term → Lit = λ term. term.lit in
    all_pairs_of_map (λ one two. one ≢ two) lit ys
    (AllPairs-from_IsDistinct same_code_decides (map lit ys)
    (IsDistinct-IsPermutation same_code same_code_flips (map lit xs) (map lit ys)
    (IsPermutation-map lit xs ys same)
    (IsDistinct-from_AllPairs same_code_decides (map lit xs)
    (all_pairs_map (λ one two. one ≢ two) lit xs distinct))))

-- ---- greater weights first

abbrev pub outweighs : Term → Term → Bool
outweighs one two = is_lt (nat_cmp two.weight one.weight)

pub outweighs_orders : IsStrictWeakOrder outweighs
outweighs_orders =
    IsStrictWeakOrder-flip (λ (one two : Term). is_lt (nat_cmp one.weight two.weight))
    (ranks_by nat_cmp_total (λ (term : Term). term.weight))

-- what is sorted so descends
pub descending_from_sort : (terms : List Term) → IsSortedBy outweighs terms → IsDescending terms
descending_from_sort terms sorted = λ i j d before within.
    ge_from_not_lt (get_or terms i d).weight (get_or terms j d).weight
    (sorted_far outweighs outweighs_orders terms sorted i j d (omega arith) within)

-- where an unset literal weighs little before a place, and the literal at the place does, each
-- unset one does
pub light_behind : (steps : List Step) (terms : List Term) (least i : ℕ) (d : Term)
    → IsDescending terms → i < length terms → (get_or terms i d).weight < least
    → All (λ (term : Term). value_of steps term.lit ≡ Unset → term.weight < least) (take i terms)
    → All (λ (term : Term). value_of steps term.lit ≡ Unset → term.weight < least) terms
light_behind steps terms least i d descending inside light before k e within unset =
    let here : (get_or terms i e).weight < least =
    subst (λ (term : Term). term.weight < least) (get_or_default terms i d e inside) light in
    elim (cases_lt k i) [
      | inl low ↦
          subst (λ (term : Term). value_of steps term.lit ≡ Unset → term.weight < least)
          (get_or-take i terms k e low)
          (before k e (omega (arith, low, inside, length-take i terms))) unset
      | inr high ↦ elim (cases_lt i k) [
        | inl behind ↦ omega (arith, descending i k e behind within, here)
        | inr near ↦
            let same : k ≡ i = omega (arith, high, near) in
            subst (λ at. (get_or terms at e).weight < least) (sym same) here
      ]
    ]
