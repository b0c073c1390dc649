use Rattle.propagator.proofs.ClosureLemmas.{fixpoint_refutes_none}
use Rattle.propagator.proofs.laws.fixpoint_refutes_none.Goals as goal

pub returns : goal.returns
returns c = fixpoint_refutes_none
