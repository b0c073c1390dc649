use Rattle.worker_strategies.proofs.RoundLemmas as lemma
use Rattle.worker_strategies.proofs.laws.round_is.Goals as goal

pub returns : goal.returns
returns c = lemma.round_is
