use Rattle.clause_store.proofs.EntailmentLemmas as lemma
use Rattle.clause_store.proofs.laws.units_grow.Goals as goal

pub returns : goal.returns
returns c = lemma.units_grow
