-- The values of a total trail, and the assignment that it stands for.
use Rattle.std.proofs.Common.{◌≡◌, ◌≢◌, ◌≤◌, ◌+◌, ◌*◌, ℕ, Bool, true, false, cond, eqb, [], ◌∷◌}
use Rattle.std.proofs.Common.{◌++◌, take}
use Rattle.std.proofs.Common.{length, get_or, Option, Some, None, refl, sym, ap}
use Rattle.std.proofs.Common.{◌∙◌, arith, ⊎_elim}
use Rattle.std.specs.Prelude.{IsSome}
use Rattle.std.specs.List.{range_with_len}
use Rattle.std.proofs.lemmas.Bool.{cases_Bool, false≢true, ne_eqb}
use Rattle.std.proofs.lemmas.List.{length-map}
use Rattle.std.proofs.lemmas.List.FromFn.{length-range_with_len, get_or-map-range_with_len}
use Rattle.std.proofs.lemmas.Option.{slice_get-get_or}
use Rattle.clause_store.specs.declared.literal.Lit.{Lit}
use Rattle.clause_store.specs.declared.literal.Value.{Value}
use Rattle.clause_store.specs.declared.literal.Value.TheVariants.{Yes, No, Unset}
use Rattle.clause_store.specs.declared.step.Step.{Step}
use Rattle.clause_store.specs.Clause.{variable, makes_true, IsOver}
use Rattle.clause_store.specs.Trail.{Assigned, IsTrail, IsTotal, is_yes, step_of, value_by}
use Rattle.clause_store.specs.Trail.{value_of}
use Rattle.clause_store.specs.Trail.{values_of}
use Rattle.item_list.proofs.ListLemmas.{take_more_read}
use Rattle.clause_store.proofs.LiteralLemmas.{coded, lit_of_code}
use Rattle.clause_store.proofs.StepLemmas.{find_none}
use Rattle.clause_store.proofs.TrailLemmas.{total_means}
use Rattle.normal_program.specs.declared.normal.Normal.{Normal}
use Rattle.normal_program.specs.Models.{IsAssignmentOf}
use Rattle.kept_minimality.specs.Total.{IsTotalOver}

never_unset : (b : Bool) → cond b Yes No ≢ Unset
never_unset true is = cc
never_unset false is = cc

-- an assigned variable's literals have values
set_value : (o : Option Step) → IsSome o → (lit : Lit) → value_by o lit ≢ Unset
set_value None some lit = absurd (false≢true some)
set_value (Some step) some lit = never_unset (eqb step.lit.0 lit.0)

module _ (trail : Assigned) (total : IsTotal trail) where
  -- the value of a literal is what the assignment makes of it
  pub value_is : (lit : Lit) → IsOver trail.vars lit
      → value_of trail.steps lit ≡ cond (makes_true (values_of trail) lit) Yes No
  value_is lit over = by (value_of trail.steps lit) refl
    where
      means : (makes_true (values_of trail) lit ≡ true → value_of trail.steps lit ≡ Yes)
          × (value_of trail.steps lit ≡ Yes → makes_true (values_of trail) lit ≡ true)
      means = total_means trail lit total over

      by : (value : Value) → value_of trail.steps lit ≡ value
          → value_of trail.steps lit ≡ cond (makes_true (values_of trail) lit) Yes No
      by Yes is = is ∙ sym (ap (λ b. cond b Yes No) (means.1 is))
      by No is =
          ⊎_elim
          (λ on. absurd (let e : No ≡ Yes = sym is ∙ means.0 on in cc))
          (λ off. is ∙ sym (ap (λ b. cond b Yes No) off))
          (cases_Bool (makes_true (values_of trail) lit))
      by Unset is =
          absurd
          (set_value (step_of trail.steps (variable lit))
          (total (variable lit) over.first over.last) lit is)

-- no assignment is of variable 0
none_at_0 : (trail : Assigned) → IsTrail trail
    → is_yes (value_of trail.steps (coded (2 * 0))) ≡ false
none_at_0 trail is =
    ap (λ o. is_yes (value_by o (coded (2 * 0))))
    (find_none (λ (step : Step). eqb (variable step.lit) 0) trail.steps
    (λ k d within. ne_eqb (variable (get_or trail.steps k d).lit) 0
    (λ e. let first = (is.over k d within).first in omega (arith, e, first))))

-- there is a value for each variable, and one at place 0
pub length-values : (trail : Assigned) → length (values_of trail) ≡ trail.vars + 1
length-values trail =
    length-map (range_with_len 0 (trail.vars + 1))
    (λ var. is_yes (value_of trail.steps (coded (2 * var))))
    ∙ length-range_with_len 0 (trail.vars + 1)

-- the assignment has a value for each atom and body
pub total_assignment : (normal : Normal) (trail : Assigned) → IsTotalOver normal trail
    → IsAssignmentOf normal (values_of trail)
total_assignment normal trail is = record {
  variables = omega (arith, is.over, length-values trail);
  no_variable =
      slice_get-get_or (values_of trail) 0 false (omega (arith, length-values trail))
      ∙ ap Some
      (get_or-map-range_with_len (λ var. is_yes (value_of trail.steps (coded (2 * var)))) 0
      (trail.vars + 1) 0 0 false (omega arith) (omega arith) ∙ none_at_0 trail is.is_trail);
}

-- ---- the set of a total trail, atom by atom

-- the value of a variable is read at its place
pub value_at : (trail : Assigned) (var : ℕ) (d : Bool) → var ≤ trail.vars
    → get_or (values_of trail) var d ≡ is_yes (value_of trail.steps (coded (2 * var)))
value_at trail var d low =
    get_or-map-range_with_len (λ it. is_yes (value_of trail.steps (coded (2 * it)))) 0
    (trail.vars + 1) var var d (omega (arith, low)) (omega arith)

-- one value more
pub next_value : (trail : Assigned) (var : ℕ) (lit : Lit) (value : Bool) → var ≤ trail.vars
    → lit.0 ≡ 2 * var → value ≡ is_yes (value_of trail.steps lit)
    → take var (values_of trail) ++ value ∷ [] ≡ take (var + 1) (values_of trail)
next_value trail var lit value low code is =
    sym
    (take_more_read (values_of trail) var value (omega (arith, low, length-values trail))
    (is ∙ ap (λ it. is_yes (value_of trail.steps it)) (lit_of_code lit (coded (2 * var)) code)
    ∙ sym (value_at trail var value low)))

-- place 0 is false
pub first_value : (trail : Assigned) → IsTrail trail → false ∷ [] ≡ take 1 (values_of trail)
first_value trail is =
    next_value trail 0 (coded (2 * 0)) false (omega arith) refl (sym (none_at_0 trail is))
