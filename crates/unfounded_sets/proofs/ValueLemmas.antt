-- What the values of literals say, and sets of atoms.
use Rattle.std.proofs.Common.{◌≡◌, ◌≢◌, ◌⊎◌, ℕ, Bool, true, false, not, List, set}
use Rattle.std.proofs.Common.{cond, refl, sym, ap, ◌∙◌, arith, ⊎_elim, inl, inr}
use Rattle.std.proofs.Common.{◌/◌, ◌*◌, ◌+◌, eqb, Option, Some, None}
use Rattle.std.proofs.lemmas.Bool.{cases_Bool, cases_eq, both_ways, false≢true}
use Rattle.std.proofs.lemmas.Bool.{eqb-true, eqb-false, ne_eqb}
use Rattle.ground_program.specs.Meaning.{IsIn, has}
use Rattle.clause_store.specs.declared.literal.Lit.{Lit}
use Rattle.clause_store.specs.declared.literal.Value.{Value}
use Rattle.clause_store.specs.declared.literal.Value.TheVariants.{Yes, No, Unset}
use Rattle.clause_store.specs.declared.step.Step.{Step}
use Rattle.clause_store.specs.Clause.{variable}
use Rattle.clause_store.specs.Trail.{step_of, value_by, value_of}
use Rattle.clause_store.specs.Standing.{IsFalse}
use Rattle.clause_store.proofs.LiteralLemmas.{lit_of_code}
use Rattle.clause_store.proofs.TrailLemmas.{find_passes}
use Rattle.normal_program.specs.Clauses.{positive, negative}
use Rattle.normal_program.proofs.lemmas.Base.TruthLemmas.{variable-positive, variable-negative}
use Rattle.unfounded_sets.specs.Founding.{is_no, is_false}

no-true : (value : Value) → is_no value ≡ true → value ≡ No
no-true Yes is = absurd (false≢true is)
no-true No is = refl
no-true Unset is = absurd (false≢true is)

-- a literal that is said to be false is
pub false_if : (steps : List Step) (lit : Lit) → is_false steps lit ≡ true → IsFalse steps lit
false_if steps lit is = no-true (value_of steps lit) is

pub false_is : (steps : List Step) (lit : Lit) → IsFalse steps lit → is_false steps lit ≡ true
false_is steps lit is = ap is_no is

pub not_false_if : (steps : List Step) (lit : Lit) → is_false steps lit ≡ false
    → ¬ IsFalse steps lit
not_false_if steps lit is false_there =
    both_ways (is_false steps lit) is (false_is steps lit false_there)

pub not_false_is : (steps : List Step) (lit : Lit) → ¬ IsFalse steps lit
    → is_false steps lit ≡ false
not_false_is steps lit not =
    ⊎_elim (λ is. absurd (not (false_if steps lit is))) (λ out. out)
    (cases_Bool (is_false steps lit))

-- an atom is in a set or it isn't
pub in_or_out : (set : List Bool) (atom : ℕ) → IsIn set atom ⊎ (has set atom ≡ false)
in_or_out set atom = cases_Bool (has set atom)

-- two false literals of one variable are the same
pub other_code : (one two step : ℕ) → one / 2 ≡ two / 2 → step / 2 ≡ one / 2 → step ≢ one
    → step ≢ two → one ≡ two
other_code one two step same here not_one not_two = omega arith

pub no_by : (b : Bool) → cond b Yes No ≡ No → b ≡ false
no_by true is = absurd (cc)
no_by false is = refl

pub same_false : (steps : List Step) (one two : Lit) → variable one ≡ variable two
    → IsFalse steps one → IsFalse steps two → one ≡ two
same_false steps one two same first second = go (step_of steps (variable one)) refl
  where
    go : (o : Option Step) → step_of steps (variable one) ≡ o → one ≡ two
    go None is = absurd (let e : Unset ≡ No = sym (ap (λ o. value_by o one) is) ∙ first in cc)
    go (Some step) is =
        lit_of_code one two
        (other_code one.0 two.0 step.lit.0 same
        (eqb-true (variable step.lit) (variable one)
        (find_passes (λ s. eqb (variable s.lit) (variable one)) steps step is))
        (eqb-false step.lit.0 one.0
        (no_by (eqb step.lit.0 one.0) (sym (ap (λ o. value_by o one) is) ∙ first)))
        (eqb-false step.lit.0 two.0
        (no_by (eqb step.lit.0 two.0)
        (sym (ap (λ o. value_by o two) (ap (step_of steps) (sym same) ∙ is)) ∙ second))))

-- the two literals of a variable
pub one_of_two : (var : ℕ) (lit : Lit) → variable lit ≡ var
    → (lit ≡ positive var) ⊎ (lit ≡ negative var)
one_of_two var lit is =
    ⊎_elim (λ even. inl (lit_of_code lit (positive var) even))
    (λ odd. inr (lit_of_code lit (negative var) (other_of_two lit.0 var is odd)))
    (cases_eq lit.0 (2 * var))
  where
    other_of_two : (code var : ℕ) → code / 2 ≡ var → code ≢ 2 * var → code ≡ 2 * var + 1
    other_of_two code var here isnt = omega arith

-- where the negation of an atom is true the atom is false
pub false_atom : (steps : List Step) (var : ℕ) → value_of steps (negative var) ≡ Yes
    → IsFalse steps (positive var)
false_atom steps var is = go (step_of steps (variable (negative var))) refl
  where
    yes_by : (b : Bool) → cond b Yes No ≡ Yes → b ≡ true
    yes_by true here = refl
    yes_by false here = absurd (cc)

    go : (o : Option Step) → step_of steps (variable (negative var)) ≡ o
        → IsFalse steps (positive var)
    go None none =
        absurd (let e : Unset ≡ Yes = sym (ap (λ o. value_by o (negative var)) none) ∙ is in cc)
    go (Some step) some =
        let same : step.lit.0 ≡ 2 * var + 1 =
        eqb-true step.lit.0 (2 * var + 1)
        (yes_by (eqb step.lit.0 (2 * var + 1))
        (sym (ap (λ o. value_by o (negative var)) some) ∙ is)) in
        ap (λ v. value_by (step_of steps v) (positive var))
        (variable-positive var ∙ sym (variable-negative var))
        ∙ ap (λ o. value_by o (positive var)) some
        ∙ ap (λ b. cond b Yes No) (ne_eqb step.lit.0 (2 * var) (λ e. omega (arith, same, e)))

-- a value that isn't false is true or unset
pub yes_or_unset : (value : Value) → value ≢ No → (value ≡ Yes) ⊎ (value ≡ Unset)
yes_or_unset Yes isnt = inl refl
yes_or_unset No isnt = absurd (isnt refl)
yes_or_unset Unset isnt = inr refl

pub yes_or_no : (value : Value) → value ≢ Unset → (value ≡ Yes) ⊎ (value ≡ No)
yes_or_no Yes isnt = inl refl
yes_or_no No isnt = inr refl
yes_or_no Unset isnt = absurd (isnt refl)
