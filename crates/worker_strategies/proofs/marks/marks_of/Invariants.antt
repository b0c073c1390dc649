use Rattle.std.proofs.Common.{take}
use Rattle.worker_strategies.specs.Literals.{AreMarked, HasPlaces}
use Rattle.worker_strategies.proofs.marks.marks_of.Given as goal

abbrev pub invariant-loop-lit : goal.invariant-loop-lit
invariant-loop-lit l =
    HasPlaces l.normal l.marks.items × AreMarked l.marks.items (take l.lit-index l.clause)
