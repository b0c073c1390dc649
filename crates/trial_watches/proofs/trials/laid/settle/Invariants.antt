use Rattle.propagator.specs.Watched.{IsReady}
use Rattle.trial_watches.proofs.trials.laid.settle.Given as goal

abbrev pub invariant-loop-turn : goal.invariant-loop-turn
invariant-loop-turn l = record {
  scene : IsReady l.scene.store l.scene.trail l.scene.watches;
  plain : IsReady l.plain.store l.plain.trail l.plain.watches;
}
