use Rattle.propagator.proofs.FalseLemmas as lemma
use Rattle.propagator.proofs.laws.propagation_keeps_values.Goals as goal

pub returns : goal.returns
returns c = lemma.propagation_keeps_values
