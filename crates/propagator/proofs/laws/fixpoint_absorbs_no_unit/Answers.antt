use Rattle.propagator.proofs.ClosureLemmas.{fixpoint_absorbs_no_unit}
use Rattle.propagator.proofs.laws.fixpoint_absorbs_no_unit.Goals as goal

pub returns : goal.returns
returns c = fixpoint_absorbs_no_unit
