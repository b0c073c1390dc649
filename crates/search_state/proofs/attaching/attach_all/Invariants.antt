use Rattle.std.proofs.Common.{take}
use Rattle.propagator.specs.Watched.{IsReady}
use Rattle.search_state.proofs.attaching.attach_all.Given as goal

abbrev pub invariant-loop-at : goal.invariant-loop-at
invariant-loop-at l = IsReady (take l.at l.store) l.trail l.watches
