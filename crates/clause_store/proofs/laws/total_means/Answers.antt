use Rattle.clause_store.proofs.TrailLemmas as lemma
use Rattle.clause_store.proofs.laws.total_means.Goals as goal

pub returns : goal.returns
returns c = lemma.total_means
