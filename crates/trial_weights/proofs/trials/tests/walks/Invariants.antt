use Rattle.trial_weights.specs.Ready.{IsReady}
use Rattle.trial_weights.proofs.trials.tests.walks.Given as goal

abbrev pub invariant-loop : goal.invariant-loop
invariant-loop l = IsReady l.scene.normal l.scene.trail l.scene.weights
