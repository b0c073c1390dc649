-- Which literals are false when an assignment comes or goes.
use Rattle.std.proofs.Common.{◌≡◌, ◌≢◌, suc, Bool, true, false, cond, eqb, List, [], ◌∷◌, ◌++◌}
use Rattle.std.proofs.Common.{length, get_or, map, drop, not, refl, sym, ap, ◌∙◌, inl, inr, arith}
use Rattle.std.proofs.Common.{◌⊎◌, Option, Some, None}
use Rattle.std.specs.Prelude.{find}
use Rattle.std.proofs.lemmas.Bool.{cases_eq, cases_Bool, eqb-false, eq-eqb, both_ways}
use Rattle.clause_store.specs.declared.literal.Lit.{Lit}
use Rattle.clause_store.specs.declared.literal.Value.TheVariants.{Yes, No, Unset}
use Rattle.clause_store.specs.declared.step.Step.{Step}
use Rattle.clause_store.specs.Clause.{variable, negation, is_negated}
use Rattle.clause_store.specs.Trail.{step_of, value_of, value_by}
use Rattle.clause_store.specs.Standing.{IsFalse, as_followed}
use Rattle.clause_store.proofs.LiteralLemmas.{lit_of_code, variable-negation, is_negated-negation}
use Rattle.clause_store.proofs.StepLemmas.{find_append, value_of_other}
use Rattle.unfounded_sets.proofs.ValueLemmas.{other_code, no_by}

-- what is found stays found
find_front : {X : Type 0} (p : X → Bool) (xs ys : List X) (x : X) → find p xs ≡ Some x
    → find p (xs ++ ys) ≡ Some x
find_front p [] ys x is = absurd (cc)
find_front p (y ∷ xs) ys x is = go (p y) is (find_front p xs ys x)
  where
    go : (b : Bool) → cond b (Some y) (find p xs) ≡ Some x
        → (find p xs ≡ Some x → find p (xs ++ ys) ≡ Some x)
        → cond b (Some y) (find p (xs ++ ys)) ≡ Some x
    go true found rest = found
    go false later rest = rest later

-- a literal is another one than its negation
negation_other : (lit : Lit) → lit.0 ≢ (negation lit).0
negation_other lit same =
    let flips : is_negated lit ≡ not (is_negated lit) =
    ap is_negated (lit_of_code lit (negation lit) same) ∙ is_negated-negation lit in
    elim (cases_Bool (is_negated lit)) [
      | inl yes_one ↦ both_ways (is_negated lit) (flips ∙ ap not yes_one) yes_one
      | inr no_one ↦ both_ways (is_negated lit) no_one (flips ∙ ap not no_one)
    ]

-- a literal that isn't true by an assignment of its variable is the negation of the assigned one
denied : (step : Step) (lit : Lit) → variable step.lit ≡ variable lit
    → cond (eqb step.lit.0 lit.0) Yes No ≡ No → lit ≡ negation step.lit
denied step lit same is =
    lit_of_code lit (negation step.lit)
    (other_code lit.0 (negation step.lit).0 step.lit.0
    (sym same ∙ sym (variable-negation step.lit)) same
    (eqb-false step.lit.0 lit.0 (no_by (eqb step.lit.0 lit.0) is)) (negation_other step.lit))

-- a literal that becomes false by an assignment is the negation of the assigned one
pub false_last : (steps : List Step) (step : Step) (lit : Lit) → IsFalse (steps ++ step ∷ []) lit
    → IsFalse steps lit ⊎ (lit ≡ negation step.lit)
false_last steps step lit is = elim (cases_eq (variable step.lit) (variable lit)) [
  | inl same ↦ go (step_of steps (variable lit)) refl same
  | inr other ↦ inl (sym (value_of_other steps step lit other) ∙ is)
]
  where
    go : (o : Option Step) → step_of steps (variable lit) ≡ o → variable step.lit ≡ variable lit
        → IsFalse steps lit ⊎ (lit ≡ negation step.lit)
    go None none same =
        inr
        (denied step lit same
        (sym
        (ap (λ o. value_by o lit)
        (find_append (λ (one : Step). eqb (variable one.lit) (variable lit)) steps (step ∷ []) none
        ∙ ap (λ b. cond b (Some step) None) (eq-eqb (variable step.lit) (variable lit) same)))
        ∙ is))
    go (Some one) found same =
        inl
        (ap (λ o. value_by o lit)
        (found
        ∙ sym
        (find_front (λ (it : Step). eqb (variable it.lit) (variable lit)) steps (step ∷ []) one
        found))
        ∙ is)

-- a literal that is false stays so
pub false_more : (steps : List Step) (step : Step) (lit : Lit) → IsFalse steps lit
    → IsFalse (steps ++ step ∷ []) lit
false_more steps step lit is = go (step_of steps (variable lit)) refl
  where
    go : (o : Option Step) → step_of steps (variable lit) ≡ o → IsFalse (steps ++ step ∷ []) lit
    go None none = absurd (let e : Unset ≡ No = sym (ap (λ o. value_by o lit) none) ∙ is in cc)
    go (Some one) found =
        ap (λ o. value_by o lit)
        (find_front (λ (it : Step). eqb (variable it.lit) (variable lit)) steps (step ∷ []) one
        found
        ∙ sym found)
        ∙ is

-- ---- assignments that are followed alike

same_first : (x y : Step) (one two : List Step) (lit : Lit) → x.lit ≡ y.lit
    → value_of one lit ≡ value_of two lit → value_of (x ∷ one) lit ≡ value_of (y ∷ two) lit
same_first x y one two lit same rest =
    go (eqb (variable x.lit) (variable lit))
    ∙ ap
    (λ (l : Lit). value_by
    (cond (eqb (variable l) (variable lit)) (Some y) (step_of two (variable lit))) lit)
    same
  where
    go : (b : Bool) → value_by (cond b (Some x) (step_of one (variable lit))) lit
        ≡ value_by (cond b (Some y) (step_of two (variable lit))) lit
    go true = ap (λ (l : Lit). cond (eqb l.0 lit.0) Yes No) same
    go false = rest

-- each literal has the same value by them
pub same_values : (one two : List Step) → map as_followed one ≡ map as_followed two → (lit : Lit)
    → value_of one lit ≡ value_of two lit
same_values [] [] is lit = refl
same_values [] (y ∷ two) is lit =
    absurd (let e : 0 ≡ suc (length (map as_followed two)) = ap length is in omega (arith, e))
same_values (x ∷ one) [] is lit =
    absurd (let e : suc (length (map as_followed one)) ≡ 0 = ap length is in omega (arith, e))
same_values (x ∷ one) (y ∷ two) is lit =
    same_first x y one two lit (ap (λ all. (get_or all 0 (as_followed x)).lit) is)
    (same_values one two (ap (drop 1) is) lit)
