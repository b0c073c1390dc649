use Rattle.coherence_test.proofs.LeastLemmas.{minimal_models}
use Rattle.coherence_test.proofs.laws.minimal_models_are_answer_sets.Goals as goal

pub returns : goal.returns
returns c = minimal_models
