use Rattle.worker_strategies.proofs.ReduceLemmas as lemma
use Rattle.worker_strategies.proofs.laws.disjunction_is_of.Goals as goal

pub returns-clause-has : goal.returns-clause-has
returns-clause-has c = lemma.disjunction_has

pub returns-clause-over : goal.returns-clause-over
returns-clause-over c = lemma.disjunction_over

pub returns-clause-once : goal.returns-clause-once
returns-clause-once c = lemma.disjunction_once
