use Rattle.clause_store.proofs.BackLemmas as lemma
use Rattle.clause_store.proofs.laws.back_twice.Goals as goal

pub returns : goal.returns
returns c = lemma.back_twice
