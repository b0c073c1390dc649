-- A total trail that is a fixpoint meets the clauses.
use Rattle.std.proofs.Common.{◌≡◌, ◌≢◌, Bool, true, false, cond, eqb, get_or, Option, Some, None}
use Rattle.std.proofs.Common.{refl, sym, ◌∙◌, inl, inr}
use Rattle.std.specs.Prelude.{IsSome}
use Rattle.std.proofs.lemmas.Bool.{false≢true}
use Rattle.clause_store.specs.declared.literal.Lit.{Lit}
use Rattle.clause_store.specs.declared.literal.Value.TheVariants.{Yes, No}
use Rattle.clause_store.specs.declared.step.Step.{Step}
use Rattle.clause_store.specs.Clause.{variable, makes_true, IsOver}
use Rattle.clause_store.specs.Standing.{IsFalse}
use Rattle.clause_store.specs.Trail.{Assigned, IsTotal, step_of, value_by, value_of, values_of}
use Rattle.clause_store.proofs.LiteralLemmas.{any_or_none}
use Rattle.clause_store.proofs.TrailLemmas.{total_means}
use Rattle.propagator.specs.Laws.{TotalFixpointMeets}

-- what isn't true on a total trail is false
total_false : (trail : Assigned) (lit : Lit) → IsTotal trail → IsOver trail.vars lit
    → value_of trail.steps lit ≢ Yes → IsFalse trail.steps lit
total_false trail lit total over not_true =
    go (step_of trail.steps (variable lit)) (total (variable lit) over.first over.last) not_true
  where
    by : (b : Bool) → cond b Yes No ≢ Yes → cond b Yes No ≡ No
    by true not_yes = absurd (not_yes refl)
    by false not_yes = refl

    go : (o : Option Step) → IsSome o → value_by o lit ≢ Yes → value_by o lit ≡ No
    go None some not_yes = absurd (false≢true some)
    go (Some step) some not_yes = by (eqb step.lit.0 lit.0) not_yes

-- so a clause with no true literal would be false
pub total_fixpoint_meets : TotalFixpointMeets
total_fixpoint_meets trail clauses total over fixpoint k d within =
    elim (any_or_none (makes_true (values_of trail)) (get_or clauses k d)) [
      | inl some ↦ some
      | inr none ↦
          absurd ((fixpoint k d within).not_false
          (λ at other inside.
          let lit_over = over k d within at other inside in
          total_false trail (get_or (get_or clauses k d) at other) total lit_over
          (λ is_true. false≢true
          (sym (none at other inside)
          ∙ (total_means trail (get_or (get_or clauses k d) at other) total lit_over).1
          is_true))))
    ]
