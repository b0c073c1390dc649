use Rattle.clause_store.proofs.TrailLemmas as lemma
use Rattle.clause_store.proofs.laws.trail_stays.Goals as goal

pub returns : goal.returns
returns c = lemma.trail_stays
