use Rattle.trial_coherence.specs.Ready.{IsReady}
use Rattle.trial_coherence.proofs.trials.questions.are_lists_answered.Given as goal

abbrev pub invariant-loop-turn : goal.invariant-loop-turn
invariant-loop-turn l = IsReady l.scene.program.now l.scene.normal.now l.scene.tester
