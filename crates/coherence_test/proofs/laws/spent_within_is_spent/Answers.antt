use Rattle.coherence_test.proofs.CheckLemmas.{spent_within}
use Rattle.coherence_test.proofs.laws.spent_within_is_spent.Goals as goal

pub returns : goal.returns
returns c = spent_within
