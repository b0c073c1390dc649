use Rattle.propagator.proofs.AttachLemmas.{ready_with_next}
use Rattle.propagator.proofs.laws.ready_with_next.Goals as goal

pub returns : goal.returns
returns c = ready_with_next
