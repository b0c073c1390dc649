use Rattle.trial_weights.specs.Ready.{IsReady}
use Rattle.trial_weights.proofs.trials.tests.follow.Given as goal

abbrev pub invariant-loop-lit : goal.invariant-loop-lit
invariant-loop-lit l = IsReady l.scene.normal l.scene.trail l.scene.weights
