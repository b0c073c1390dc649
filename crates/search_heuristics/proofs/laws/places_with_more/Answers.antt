use Rattle.search_heuristics.proofs.PlaceLemmas as lemma
use Rattle.search_heuristics.proofs.laws.places_with_more.Goals as goal

pub returns : goal.returns
returns c = lemma.places_with_more
