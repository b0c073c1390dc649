use Rattle.std.proofs.Common.{◌+◌}
use Rattle.worker_strategies.specs.Links.{AreBelow, AreLinked}
use Rattle.worker_strategies.proofs.links.Links.open.Given as goal

abbrev pub invariant-loop-place : goal.invariant-loop-place
invariant-loop-place l =
    AreLinked l.normal.names l.mode l.greatest.items l.smaller.items
    × AreBelow l.greatest.items (l.place + 1)
