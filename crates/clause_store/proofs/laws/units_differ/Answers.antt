use Rattle.clause_store.proofs.EntailmentLemmas as lemma
use Rattle.clause_store.proofs.laws.units_differ.Goals as goal

pub returns : goal.returns
returns c = lemma.units_differ
