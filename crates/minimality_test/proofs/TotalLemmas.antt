-- The assignment of a trail that assigns all variables of atoms and bodies.
use Rattle.std.proofs.Common.{◌≡◌, ◌≢◌, ◌≤◌, ◌+◌, ℕ, Bool, true, false, cond, eqb}
use Rattle.std.proofs.Common.{List, [], ◌∷◌, ◌++◌, length, map, get_or, Option, Some, None, sym}
use Rattle.std.proofs.Common.{ap, ◌∙◌, subst, arith}
use Rattle.std.specs.Prelude.{IsSome}
use Rattle.std.proofs.lemmas.Bool.{false≢true, ne_eqb}
use Rattle.std.proofs.lemmas.List.{get_or-take}
use Rattle.std.proofs.lemmas.List.FromFn.{get_or-map-range_with_len, length-map-range_with_len}
use Rattle.std.proofs.lemmas.List.FromFn.{map-range_with_len_more, take-map-range_with_len}
use Rattle.std.specs.List.{range_with_len}
use Rattle.std.proofs.lemmas.Option.{slice_get-get_or}
use Rattle.ground_program.specs.Meaning.{has}
use Rattle.clause_store.specs.declared.literal.Value.TheVariants.{Yes, No, Unset}
use Rattle.clause_store.specs.declared.step.Step.{Step}
use Rattle.clause_store.specs.Clause.{variable, truth}
use Rattle.clause_store.specs.Trail.{Assigned, IsTotal, IsTrail, step_of, value_by, value_of}
use Rattle.clause_store.specs.Trail.{is_yes, values_of}
use Rattle.clause_store.proofs.StepLemmas.{find_none}
use Rattle.normal_program.specs.declared.normal.Normal.{Normal}
use Rattle.normal_program.specs.Normal.{greatest_body_var}
use Rattle.normal_program.specs.Clauses.{positive}
use Rattle.normal_program.specs.Models.{IsAssignmentOf, set_of}
use Rattle.normal_program.proofs.lemmas.Base.TruthLemmas.{variable-positive}

-- a variable is true where its literal is
pub truth_on : (trail : Assigned) (var : ℕ) → var ≤ trail.vars
    → truth (values_of trail) var ≡ is_yes (value_of trail.steps (positive var))
truth_on trail var low =
    get_or-map-range_with_len (λ v. is_yes (value_of trail.steps (positive v))) 0 (trail.vars + 1)
    var var false (omega (arith, low)) (omega arith)

-- on a total trail each variable has a value
pub valued : (trail : Assigned) → IsTotal trail → (var : ℕ) → 1 ≤ var → var ≤ trail.vars
    → value_of trail.steps (positive var) ≢ Unset
valued trail total var first last =
    go (step_of trail.steps (variable (positive var)))
    (subst (λ v. IsSome (step_of trail.steps v)) (sym (variable-positive var))
    (total var first last))
  where
    by : (b : Bool) → cond b Yes No ≢ Unset
    by true = λ e. cc
    by false = λ e. cc

    go : (o : Option Step) → IsSome o → value_by o (positive var) ≢ Unset
    go None some = absurd (false≢true some)
    go (Some step) some = by (eqb step.lit.0 (positive var).0)

-- no variable has the number 0
none_at_0 : (trail : Assigned) → IsTrail trail → step_of trail.steps 0 ≡ None
none_at_0 trail is =
    find_none (λ (step : Step). eqb (variable step.lit) 0) trail.steps
    (λ k d within. ne_eqb (variable (get_or trail.steps k d).lit) 0
    (λ e. omega (arith, e, (is.over k d within).first)))

unset_at_0 : (trail : Assigned) → IsTrail trail → value_of trail.steps (positive 0) ≡ Unset
unset_at_0 trail is =
    ap (λ v. value_by (step_of trail.steps v) (positive 0)) (variable-positive 0)
    ∙ ap (λ o. value_by o (positive 0)) (none_at_0 trail is)

-- the values of a trail over atoms and bodies are an assignment
pub assigns : (normal : Normal) (trail : Assigned) → IsTrail trail
    → greatest_body_var normal ≤ trail.vars → IsAssignmentOf normal (values_of trail)
assigns normal trail is range =
    let size : length (values_of trail) ≡ trail.vars + 1 =
    length-map-range_with_len (λ v. is_yes (value_of trail.steps (positive v))) 0 (trail.vars + 1)
    in
    record {
      variables = omega (arith, size, range);
      no_variable =
          slice_get-get_or (values_of trail) 0 false (omega (arith, size))
          ∙ ap Some (truth_on trail 0 (omega arith) ∙ ap is_yes (unset_at_0 trail is));
    }

-- an atom is in the set of an assignment where it is true
pub has_atom : (normal : Normal) (values : List Bool) (atom : ℕ) → atom ≤ normal.atoms
    → has (set_of normal values) atom ≡ truth values atom
has_atom normal values atom low =
    get_or-take (normal.atoms + 1) values atom false (omega (arith, low))

-- ---- the values of the first variables

-- those of the variables before one
abbrev pub values_before : Assigned → ℕ → List Bool
values_before trail count =
    map (λ var. is_yes (value_of trail.steps (positive var))) (range_with_len 0 count)

-- the place that belongs to no variable
pub none_before : (trail : Assigned) → IsTrail trail → false ∷ [] ≡ values_before trail 1
none_before trail is = ap (λ b. b ∷ []) (sym (ap is_yes (unset_at_0 trail is)))

-- one more
pub one_more_before : (trail : Assigned) (var : ℕ)
    → values_before trail (var + 1)
    ≡ values_before trail var ++ is_yes (value_of trail.steps (positive var)) ∷ []
one_more_before trail var =
    map-range_with_len_more (λ v. is_yes (value_of trail.steps (positive v))) 0 var var
    (omega arith)

-- those of the atoms are the set
pub atoms_before : (normal : Normal) (trail : Assigned) → normal.atoms ≤ trail.vars
    → values_before trail (normal.atoms + 1) ≡ set_of normal (values_of trail)
atoms_before normal trail range =
    sym (take-map-range_with_len (λ v. is_yes (value_of trail.steps (positive v))) 0
    (trail.vars + 1) (normal.atoms + 1) (omega (arith, range)))
