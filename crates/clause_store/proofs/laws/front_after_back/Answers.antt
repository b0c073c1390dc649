use Rattle.clause_store.proofs.BackLemmas as lemma
use Rattle.clause_store.proofs.laws.front_after_back.Goals as goal

pub returns : goal.returns
returns c = lemma.front_after_back
