use Rattle.propagator.proofs.WatchedLemmas.{ready_with_clause}
use Rattle.propagator.proofs.laws.ready_with_clause.Goals as goal

pub returns : goal.returns
returns c = ready_with_clause
