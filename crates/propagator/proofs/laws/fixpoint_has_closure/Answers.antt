use Rattle.propagator.proofs.ClosureLemmas.{fixpoint_has_closure}
use Rattle.propagator.proofs.laws.fixpoint_has_closure.Goals as goal

pub returns : goal.returns
returns c = fixpoint_has_closure
