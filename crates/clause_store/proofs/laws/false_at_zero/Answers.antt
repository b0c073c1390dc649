use Rattle.clause_store.proofs.lemmas.Trails.ZeroLemmas as lemma
use Rattle.clause_store.proofs.laws.false_at_zero.Goals as goal

pub returns : goal.returns
returns c = lemma.false_at_zero
