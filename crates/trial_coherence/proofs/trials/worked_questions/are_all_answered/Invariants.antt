use Rattle.trial_coherence.specs.Ready.{IsReady}
use Rattle.trial_coherence.proofs.trials.worked_questions.are_all_answered.Given as goal

abbrev pub invariant-loop-question : goal.invariant-loop-question
invariant-loop-question l = IsReady l.scene.program.now l.scene.normal.now l.scene.tester
