use Rattle.trial_coherence.specs.Ready.{IsReady}
use Rattle.trial_coherence.proofs.trials.scene.Scene.settle.Given as goal

abbrev pub invariant-loop-turn : goal.invariant-loop-turn
invariant-loop-turn l = IsReady l.self.program.now l.self.normal.now l.self.tester
