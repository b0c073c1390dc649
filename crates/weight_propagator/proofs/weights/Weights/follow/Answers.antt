use Rattle.std.proofs.Common.{◌≢◌, None, get_or, sym, subst, arith}
use Rattle.std.specs.Prelude.{All}
use Rattle.clause_store.specs.declared.step.Step.{Step}
use Rattle.clause_store.specs.Clause.{variable}
use Rattle.clause_store.specs.Standing.{Followed, AreFollowed}
use Rattle.weight_propagator.specs.Sums.{AreApart}
use Rattle.weight_propagator.proofs.FollowLemmas.{next_apart}
use Rattle.weight_propagator.proofs.weights.Weights.follow.Goals as goal

pub follow_step-requires : goal.follow_step-requires
follow_step-requires c =
    let none : Step = record { lit = record { 0 = 0 }; reason = None; level = 0 } in
    subst
    (λ at. All
    (λ (one : Followed). variable one.lit ≢ variable (get_or c.steps-steps.result.now at none).lit)
    c.loop-steps.self.followed) (sym c.count-in-loop-steps.ensures)
    (next_apart c.steps-steps.result.now c.loop-steps.self.followed
    (subst (λ steps. AreFollowed steps c.loop-steps.self.followed)
    (sym c.steps-steps.ensures.steps) c.loop-steps.invariant.followed) none
    (omega (arith, c.loop-steps-test.true, c.count.ensures))
    (subst AreApart (sym c.steps-steps.ensures.steps) c.steps-steps.ensures.trail.once))
