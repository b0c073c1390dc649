use Rattle.worker_strategies.proofs.TestLemmas as lemma
use Rattle.worker_strategies.proofs.laws.tests_compose.Goals as goal

pub returns : goal.returns
returns c = lemma.tested_then
