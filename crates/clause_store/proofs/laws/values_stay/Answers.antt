use Rattle.clause_store.proofs.lemmas.Trails.StillLemmas as lemma
use Rattle.clause_store.proofs.laws.values_stay.Goals as goal

pub returns : goal.returns
returns c = lemma.values_stay
