use Rattle.propagator.proofs.WatchedLemmas.{ready_with_more}
use Rattle.propagator.proofs.laws.ready_with_more.Goals as goal

pub returns : goal.returns
returns c = ready_with_more
