use Rattle.std.proofs.Common.{◌≡◌, take}
use Rattle.worker_strategies.specs.Literals.{AreOpen, HasPlaces, named_of}
use Rattle.worker_strategies.proofs.literals.named_in.Given as goal

abbrev pub invariant-loop-cand : goal.invariant-loop-cand
invariant-loop-cand l =
    HasPlaces l.normal l.marks.items
    × AreOpen l.normal.names l.mode l.clause l.marks.items l.named
    × (l.named ≡ named_of l.normal.names l.mode l.clause (take l.cand-index l.cands))
