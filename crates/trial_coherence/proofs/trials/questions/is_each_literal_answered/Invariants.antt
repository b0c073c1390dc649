use Rattle.trial_coherence.specs.Ready.{IsReady}
use Rattle.trial_coherence.proofs.trials.questions.is_each_literal_answered.Given as goal

abbrev pub invariant-loop-code : goal.invariant-loop-code
invariant-loop-code l = IsReady l.scene.program.now l.scene.normal.now l.scene.tester
