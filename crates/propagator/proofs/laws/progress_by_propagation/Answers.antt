use Rattle.propagator.proofs.RunLemmas as lemma
use Rattle.propagator.proofs.laws.progress_by_propagation.Goals as goal

pub returns : goal.returns
returns c = lemma.progress_by_propagation
