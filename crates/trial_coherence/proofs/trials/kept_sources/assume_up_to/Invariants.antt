use Rattle.trial_coherence.specs.Ready.{IsOpen}
use Rattle.trial_coherence.proofs.trials.kept_sources.assume_up_to.Given as goal

abbrev pub invariant-loop-atom : goal.invariant-loop-atom
invariant-loop-atom l = IsOpen l.scene.normal l.scene.trail l.scene.founding
