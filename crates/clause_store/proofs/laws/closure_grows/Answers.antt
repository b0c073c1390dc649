use Rattle.clause_store.proofs.EntailmentLemmas as lemma
use Rattle.clause_store.proofs.laws.closure_grows.Goals as goal

pub returns : goal.returns
returns c = lemma.closure_grows
