use Rattle.std.proofs.Common.{take}
use Rattle.weight_propagator.specs.Sums.{AreMoved, AreMarked}
use Rattle.weight_propagator.proofs.tally.shift.Given as goal

abbrev pub invariant-loop-entry : goal.invariant-loop-entry
invariant-loop-entry l = record {
  moved : AreMoved l.way (take l.entry-index l.entries) l.initial.sums.items l.sums.items;
  marked :
      AreMarked (take l.entry-index l.entries) l.initial.waiting.waits l.waiting.waits;
}
