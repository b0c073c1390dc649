use Rattle.worker_strategies.proofs.GainLemmas as lemma
use Rattle.worker_strategies.proofs.laws.coherence_is_answered.Goals as goal

pub returns-clause-found : goal.returns-clause-found
returns-clause-found c = lemma.coherence_found

pub returns-clause-refuted : goal.returns-clause-refuted
returns-clause-refuted c = lemma.coherence_refuted
