use Rattle.worker_strategies.proofs.ReduceLemmas as lemma
use Rattle.worker_strategies.proofs.laws.reduce_is_answered.Goals as goal

pub returns-clause-found : goal.returns-clause-found
returns-clause-found c = lemma.reduce_found

pub returns-clause-proved : goal.returns-clause-proved
returns-clause-proved c = lemma.reduce_proved

pub returns-clause-none : goal.returns-clause-none
returns-clause-none c = lemma.reduce_none
