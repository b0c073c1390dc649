-- The values of literals of one variable, and of literals that are taken.
use Rattle.std.proofs.Common.{◌≡◌, ◌≢◌, ◌/◌, ◌⊎◌, ℕ, Bool, true, false, cond, eqb, List, Option}
use Rattle.std.proofs.Common.{Some, None, refl, sym, ap, ◌∙◌, subst, inl, inr, arith}
use Rattle.std.specs.Prelude.{IfSome, ◌||◌}
use Rattle.std.proofs.lemmas.Bool.{cases_Bool, eqb-true, eqb-false, false≢true}
use Rattle.clause_store.specs.declared.literal.Lit.{Lit}
use Rattle.clause_store.specs.declared.literal.Value.{Value}
use Rattle.clause_store.specs.declared.literal.Value.TheVariants.{Yes, No, Unset}
use Rattle.clause_store.specs.declared.step.Step.{Step}
use Rattle.clause_store.specs.Clause.{variable}
use Rattle.clause_store.specs.Trail.{step_of, value_by, value_of}
use Rattle.clause_store.proofs.LiteralLemmas.{lit_of_code, variable-negation}
use Rattle.clause_store.proofs.TrailLemmas.{find_passes}
use Rattle.clause_store.proofs.StepLemmas.{step_of_unset}
use Rattle.weight_propagator.specs.declared.row.Term.{Term}
use Rattle.weight_propagator.specs.declared.side.Side.{Side}
use Rattle.weight_propagator.specs.declared.side.Side.TheVariants.{Reached, Missed}
use Rattle.weight_propagator.specs.Rows.{is_on, is_extra, is_taken, denial}

pub or_cases : (a b : Bool) → (a || b) ≡ true → (a ≡ true) ⊎ (b ≡ true)
or_cases true b is = inl refl
or_cases false b is = inr is

pub or_none : (a b : Bool) → (a || b) ≡ false → (a ≡ false) × (b ≡ false)
or_none true b is = absurd (false≢true (sym is))
or_none false b is = (refl, is)

-- two literals of one variable have one value only if they are the same
pub other_code : (one two step : ℕ) → one / 2 ≡ two / 2 → step / 2 ≡ one / 2 → step ≢ one
    → step ≢ two → one ≡ two
other_code one two step same here not_one not_two = omega arith

by_step : (step : Step) (one two : Lit) → variable one ≡ variable two
    → variable step.lit ≡ variable one → value_by (Some step) one ≡ value_by (Some step) two
    → one ≡ two
by_step step one two same here values =
    elim (cases_Bool (eqb step.lit.0 one.0)) [
      | inl yes_one ↦ elim (cases_Bool (eqb step.lit.0 two.0)) [
        | inl yes_two ↦ lit_of_code one two
            (sym (eqb-true step.lit.0 one.0 yes_one) ∙ eqb-true step.lit.0 two.0 yes_two)
        | inr no_two ↦ absurd
            (let e : Yes ≡ No = sym (ap (λ b. cond b Yes No) yes_one) ∙ values
            ∙ ap (λ b. cond b Yes No) no_two in cc)
      ]
      | inr no_one ↦ elim (cases_Bool (eqb step.lit.0 two.0)) [
        | inl yes_two ↦ absurd
            (let e : No ≡ Yes = sym (ap (λ b. cond b Yes No) no_one) ∙ values
            ∙ ap (λ b. cond b Yes No) yes_two in cc)
        | inr no_two ↦ lit_of_code one two
            (other_code one.0 two.0 step.lit.0 same here (eqb-false step.lit.0 one.0 no_one)
            (eqb-false step.lit.0 two.0 no_two))
      ]
    ]

pub same_value : (steps : List Step) (one two : Lit) → variable one ≡ variable two
    → value_of steps one ≡ value_of steps two → value_of steps one ≢ Unset → one ≡ two
same_value steps one two same values set = go (step_of steps (variable one)) refl
  where
    go : (o : Option Step) → step_of steps (variable one) ≡ o → one ≡ two
    go None is = absurd (set (ap (λ o. value_by o one) is))
    go (Some step) is =
        by_step step one two same
        (eqb-true (variable step.lit) (variable one)
        (find_passes (λ s. eqb (variable s.lit) (variable one)) steps step is))
        (sym (ap (λ o. value_by o one) is) ∙ values
        ∙ ap (λ o. value_by o two) (ap (step_of steps) (sym same) ∙ is))

pub unset_same : (steps : List Step) (one two : Lit) → variable one ≡ variable two
    → value_of steps two ≡ Unset → value_of steps one ≡ Unset
unset_same steps one two same unset =
    ap (λ o. value_by o one) (ap (step_of steps) same ∙ step_of_unset steps two unset)

-- a literal is true where its negation is false
negation_by : (b c : Bool) → (b ≡ true → c ≡ false) → cond b Yes No ≡ Yes → cond c Yes No ≡ No
negation_by true c flips is = ap (λ d. cond d Yes No) (flips refl)
negation_by false c flips is = absurd (cc)

pub on_value : (side : Side) (value : Value) → is_on side value ≡ true → value ≢ Unset
on_value Reached Yes is = λ e. cc
on_value Reached No is = absurd (false≢true is)
on_value Reached Unset is = absurd (false≢true is)
on_value Missed Yes is = absurd (false≢true is)
on_value Missed No is = λ e. cc
on_value Missed Unset is = absurd (false≢true is)

pub on_both : (side : Side) (one two : Value) → is_on side one ≡ true → is_on side two ≡ true
    → one ≡ two
on_both Reached Yes Yes a b = refl
on_both Reached Yes No a b = absurd (false≢true b)
on_both Reached Yes Unset a b = absurd (false≢true b)
on_both Reached No two a b = absurd (false≢true a)
on_both Reached Unset two a b = absurd (false≢true a)
on_both Missed No No a b = refl
on_both Missed No Yes a b = absurd (false≢true b)
on_both Missed No Unset a b = absurd (false≢true b)
on_both Missed Yes two a b = absurd (false≢true a)
on_both Missed Unset two a b = absurd (false≢true a)

-- the extra literal is the one that was asked for
pub is_that : (extra : Option Lit) (lit : Lit) → is_extra extra lit ≡ true → extra ≡ Some lit
is_that None lit is = absurd (false≢true is)
is_that (Some extra) lit is = ap Some (lit_of_code extra lit (eqb-true extra.0 lit.0 is))

extra_unset : (steps : List Step) (extra : Option Lit) (lit : Lit)
    → IfSome extra (λ one. value_of steps one ≡ Unset) → extra ≡ Some lit
    → value_of steps lit ≡ Unset
extra_unset steps extra lit unset is =
    subst (λ o. IfSome o (λ one. value_of steps one ≡ Unset)) is unset

-- of the literals that are taken no two have one variable
pub taken_same : (side : Side) (steps : List Step) (extra : Option Lit)
    → IfSome extra (λ one. value_of steps one ≡ Unset) → (one two : Term)
    → is_taken side steps extra one ≡ true → is_taken side steps extra two ≡ true
    → variable one.lit ≡ variable two.lit → one.lit ≡ two.lit
taken_same side steps extra unset one two taken_one taken_two same =
    elim (or_cases (is_on side (value_of steps one.lit)) (is_extra extra one.lit) taken_one) [
      | inl on_one ↦
          elim (or_cases (is_on side (value_of steps two.lit)) (is_extra extra two.lit) taken_two) [
            | inl on_two ↦ same_value steps one.lit two.lit same
                (on_both side (value_of steps one.lit) (value_of steps two.lit) on_one on_two)
                (on_value side (value_of steps one.lit) on_one)
            | inr is_two ↦ absurd
                (on_value side (value_of steps one.lit) on_one
                (unset_same steps one.lit two.lit same
                (extra_unset steps extra two.lit unset (is_that extra two.lit is_two))))
          ]
      | inr is_one ↦
          elim (or_cases (is_on side (value_of steps two.lit)) (is_extra extra two.lit) taken_two) [
            | inl on_two ↦ absurd
                (on_value side (value_of steps two.lit) on_two
                (unset_same steps two.lit one.lit (sym same)
                (extra_unset steps extra one.lit unset (is_that extra one.lit is_one))))
            | inr is_two ↦
                let e : Some one.lit ≡ Some two.lit =
                sym (is_that extra one.lit is_one) ∙ is_that extra two.lit is_two in
                cc
          ]
    ]

pub variable-denial : (side : Side) (lit : Lit) → variable (denial side lit) ≡ variable lit
variable-denial Reached lit = variable-negation lit
variable-denial Missed lit = refl
