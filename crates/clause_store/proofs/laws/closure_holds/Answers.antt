use Rattle.clause_store.proofs.EntailmentLemmas as lemma
use Rattle.clause_store.proofs.laws.closure_holds.Goals as goal

pub returns : goal.returns
returns c = lemma.closure_holds
