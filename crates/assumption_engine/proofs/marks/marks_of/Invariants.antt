use Rattle.std.proofs.Common.{take}
use Rattle.assumption_engine.specs.Marks.{AreMarkedIn}
use Rattle.assumption_engine.proofs.marks.marks_of.Given as goal

abbrev pub invariant-clauses : goal.invariant-clauses
invariant-clauses l = AreMarkedIn (take l.at l.store) l.marks.items
