use Rattle.trial_coherence.specs.Ready.{IsReady}
use Rattle.trial_coherence.proofs.trials.handing.hands_on_those.Given as goal

abbrev pub invariant-loop-clause : goal.invariant-loop-clause
invariant-loop-clause l = IsReady l.scene.program.now l.scene.normal.now l.scene.tester
