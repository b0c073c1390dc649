use Rattle.clause_store.proofs.lemmas.Units.UnitLemmas as lemma
use Rattle.clause_store.proofs.laws.unit_among_fewer.Goals as goal

pub returns : goal.returns
returns c = lemma.unit_among_fewer
