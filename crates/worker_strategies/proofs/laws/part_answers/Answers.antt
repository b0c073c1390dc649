use Rattle.worker_strategies.proofs.ChunkLemmas as lemma
use Rattle.worker_strategies.proofs.laws.part_answers.Goals as goal

pub returns-clause-over : goal.returns-clause-over
returns-clause-over c = lemma.part_are

pub returns-clause-comes : goal.returns-clause-comes
returns-clause-comes c = lemma.outcome_of_part
