use Rattle.clause_store.proofs.lemmas.Trails.FollowedLemmas as lemma
use Rattle.clause_store.proofs.laws.followed_with_more.Goals as goal

pub returns : goal.returns
returns c = lemma.followed_with_more
