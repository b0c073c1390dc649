use Rattle.clause_store.proofs.lemmas.Trails.FollowedLemmas as lemma
use Rattle.clause_store.proofs.laws.followed_after_back.Goals as goal

pub returns : goal.returns
returns c = lemma.followed_after_back
