use Rattle.clause_store.proofs.EntailmentLemmas as lemma
use Rattle.clause_store.proofs.laws.refuted_follows.Goals as goal

pub returns : goal.returns
returns c = lemma.refuted_follows
