use Rattle.coherence_test.proofs.LeastLemmas.{founded_models}
use Rattle.coherence_test.proofs.laws.founded_models_are_answer_sets.Goals as goal

pub returns : goal.returns
returns c = founded_models
