use Rattle.clause_store.proofs.StepLemmas.{trail_fits}
use Rattle.clause_store.proofs.trail.Trail.steps.Goals as goal

pub returns-clause-few : goal.returns-clause-few
returns-clause-few c = rw (← c.self.view_is) (trail_fits _ c.self.invariant.trail)
