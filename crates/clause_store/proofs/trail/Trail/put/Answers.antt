use Rattle.std.proofs.Common.{◌≡◌, ◌∙◌, sym, subst, arith}
use Rattle.clause_store.specs.declared.literal.Value.TheVariants.{Unset}
use Rattle.clause_store.specs.Clause.{IsOver}
use Rattle.clause_store.specs.Trail.{value_of, present_level, next_level}
use Rattle.clause_store.proofs.ArrayLemmas.{room_left, kept_push}
use Rattle.clause_store.proofs.StepLemmas.{trail_fits}
use Rattle.clause_store.proofs.trail.Trail.put.Goals as goal

pub overflow_cast-place : goal.overflow_cast-place
overflow_cast-place c =
    omega (
      arith,
      c.len-place.ensures,
      c.self.invariant.counted,
      c.self.invariant.few,
      trail_fits (record { vars = c.self.inside.vars; steps = c.self.inside.steps.items })
          c.self.invariant.trail,
    )

pub push_reserved-requires : goal.push_reserved-requires
push_reserved-requires c =
    room_left _ _ _ _ _ _ c.args.step c.self.invariant
    (subst (λ trail. IsOver trail.vars c.args.step.lit) (sym c.self.view_is) c.requires.over)
    (subst (λ trail. value_of trail.steps c.args.step.lit ≡ Unset) (sym c.self.view_is)
    c.requires.unset)
    (subst (λ trail. c.args.step.level ≡ next_level (present_level trail.steps) c.args.step.reason)
    (sym c.self.view_is) c.requires.level)

pub invariant_of-self : goal.invariant_of-self
invariant_of-self c =
    rw (c.var.ensures, c.negated.ensures, c.len-place.ensures ∙ c.self.invariant.counted)
    (kept_push _ _ _ _ _ _ _ _ _ c.args.step c.self.invariant
    (subst (λ trail. IsOver trail.vars c.args.step.lit) (sym c.self.view_is) c.requires.over)
    (subst (λ trail. value_of trail.steps c.args.step.lit ≡ Unset) (sym c.self.view_is)
    c.requires.unset)
    (subst (λ trail. c.args.step.level ≡ next_level (present_level trail.steps) c.args.step.reason)
    (sym c.self.view_is) c.requires.level)
    c.push_reserved.ensures.items c.push_reserved.ensures.len c.push_reserved.ensures.capacity)
