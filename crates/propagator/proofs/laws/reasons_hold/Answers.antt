use Rattle.propagator.proofs.HoldLemmas.{reasons_hold}
use Rattle.propagator.proofs.laws.reasons_hold.Goals as goal

pub returns : goal.returns
returns c = reasons_hold
