use Rattle.clause_store.proofs.FrontLemmas as lemma
use Rattle.clause_store.proofs.laws.meets_in_front.Goals as goal

pub returns : goal.returns
returns c = lemma.meets_in_front
