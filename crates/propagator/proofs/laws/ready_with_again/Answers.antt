use Rattle.propagator.proofs.WatchedLemmas.{ready_with_again}
use Rattle.propagator.proofs.laws.ready_with_again.Goals as goal

pub returns : goal.returns
returns c = ready_with_again
