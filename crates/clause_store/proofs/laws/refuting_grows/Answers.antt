use Rattle.clause_store.proofs.EntailmentLemmas as lemma
use Rattle.clause_store.proofs.laws.refuting_grows.Goals as goal

pub returns : goal.returns
returns c = lemma.refuting_grows
