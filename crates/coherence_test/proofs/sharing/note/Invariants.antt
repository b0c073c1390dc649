use Rattle.std.proofs.Common.{take}
use Rattle.coherence_test.specs.Sharing.{AreNoted, AreShareable}
use Rattle.coherence_test.proofs.sharing.note.Given as goal

abbrev pub invariant-loop-unit : goal.invariant-loop-unit
invariant-loop-unit l =
    AreNoted l.normal (take l.unit-index l.units) l.initial.left.items l.left.items
    × AreShareable l.normal l.left.items
