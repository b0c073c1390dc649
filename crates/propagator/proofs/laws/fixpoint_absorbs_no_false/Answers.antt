use Rattle.propagator.proofs.FalseLemmas as lemma
use Rattle.propagator.proofs.laws.fixpoint_absorbs_no_false.Goals as goal

pub returns : goal.returns
returns c = lemma.fixpoint_absorbs_no_false
