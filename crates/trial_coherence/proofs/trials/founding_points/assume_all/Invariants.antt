use Rattle.trial_coherence.specs.Ready.{IsOpen}
use Rattle.trial_coherence.proofs.trials.founding_points.assume_all.Given as goal

abbrev pub invariant-loop-code : goal.invariant-loop-code
invariant-loop-code l = IsOpen l.scene.normal l.scene.trail l.scene.founding
