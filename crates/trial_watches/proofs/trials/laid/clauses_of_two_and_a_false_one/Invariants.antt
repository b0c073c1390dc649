use Rattle.propagator.specs.Watched.{IsReady}
use Rattle.trial_watches.proofs.trials.laid.clauses_of_two_and_a_false_one.Given as goal

abbrev pub invariant-loop-var : goal.invariant-loop-var
invariant-loop-var l = IsReady l.scene.store l.scene.trail l.scene.watches
