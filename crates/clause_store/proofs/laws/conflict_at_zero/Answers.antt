use Rattle.clause_store.proofs.lemmas.Trails.ZeroLemmas as lemma
use Rattle.clause_store.proofs.laws.conflict_at_zero.Goals as goal

pub returns : goal.returns
returns c = lemma.conflict_at_zero
