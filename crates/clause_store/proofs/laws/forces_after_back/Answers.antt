use Rattle.clause_store.proofs.lemmas.Trails.StillLemmas as lemma
use Rattle.clause_store.proofs.laws.forces_after_back.Goals as goal

pub returns : goal.returns
returns c = lemma.forces_after_back
