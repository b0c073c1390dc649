use Rattle.trial_coherence.specs.Ready.{IsOpen}
use Rattle.trial_coherence.proofs.trials.kept_sources.walks.Given as goal

abbrev pub invariant-loop : goal.invariant-loop
invariant-loop l = IsOpen l.scene.normal l.scene.trail l.scene.founding
