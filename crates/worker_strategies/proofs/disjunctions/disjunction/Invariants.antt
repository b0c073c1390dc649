use Rattle.std.proofs.Common.{◌≡◌, take}
use Rattle.worker_strategies.specs.Disjunction.{disjunction_of}
use Rattle.worker_strategies.specs.Literals.{AreMarked, HasPlaces}
use Rattle.worker_strategies.proofs.disjunctions.disjunction.Given as goal

abbrev pub invariant-loop-cand : goal.invariant-loop-cand
invariant-loop-cand l =
    HasPlaces l.normal l.marks.items × AreMarked l.marks.items l.lits
    × (l.lits ≡ disjunction_of l.normal.names l.mode (take l.cand-index l.cands))
