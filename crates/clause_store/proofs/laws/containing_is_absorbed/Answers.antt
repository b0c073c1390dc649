use Rattle.clause_store.proofs.EntailmentLemmas as lemma
use Rattle.clause_store.proofs.laws.containing_is_absorbed.Goals as goal

pub returns : goal.returns
returns c = lemma.containing_is_absorbed
