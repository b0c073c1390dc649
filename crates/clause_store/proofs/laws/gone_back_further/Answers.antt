use Rattle.clause_store.proofs.lemmas.Trails.FollowedLemmas as lemma
use Rattle.clause_store.proofs.laws.gone_back_further.Goals as goal

pub returns : goal.returns
returns c = lemma.gone_back_further
