use Rattle.clause_store.proofs.lemmas.Units.UnitLemmas as lemma
use Rattle.clause_store.proofs.laws.units_grow_in_store.Goals as goal

pub returns : goal.returns
returns c = lemma.units_grow_in_store
