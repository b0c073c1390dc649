use Rattle.worker_jobs.proofs.SpentLemmas as lemma
use Rattle.worker_jobs.proofs.laws.later_tests_are_apart.Goals as goal

pub returns : goal.returns
returns c = lemma.later_tests_are_apart
