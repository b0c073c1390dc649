use Rattle.propagator.proofs.TotalLemmas.{total_fixpoint_meets}
use Rattle.propagator.proofs.laws.total_fixpoint_meets.Goals as goal

pub returns : goal.returns
returns c = total_fixpoint_meets
