use Rattle.clause_store.proofs.lemmas.Units.RowLemmas as lemma
use Rattle.clause_store.proofs.laws.units_are_few.Goals as goal

pub returns : goal.returns
returns c = lemma.units_are_few
