use Rattle.worker_strategies.proofs.SpentLemmas as lemma
use Rattle.worker_strategies.proofs.laws.spent_is.Goals as goal

pub returns-clause-plain : goal.returns-clause-plain
returns-clause-plain c = lemma.plain_spent

pub returns-clause-wide : goal.returns-clause-wide
returns-clause-wide c = lemma.wide_spent

pub returns-clause-grounded : goal.returns-clause-grounded
returns-clause-grounded c = lemma.coherence_grounded
