use Rattle.propagator.specs.Watched.{IsReady}
use Rattle.trial_watches.proofs.trials.looks.a_row_of_units.Given as goal

abbrev pub invariant-loop-var : goal.invariant-loop-var
invariant-loop-var l = IsReady l.scene.store l.scene.trail l.scene.watches
