use Rattle.propagator.proofs.WatchedLemmas.{ready_after_rewind}
use Rattle.propagator.proofs.laws.ready_after_rewind.Goals as goal

pub returns : goal.returns
returns c = ready_after_rewind
