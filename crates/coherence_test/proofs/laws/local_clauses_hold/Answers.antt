use Rattle.coherence_test.proofs.LocalLemmas.{local_holds}
use Rattle.coherence_test.proofs.laws.local_clauses_hold.Goals as goal

pub returns : goal.returns
returns c = local_holds
