use Rattle.std.proofs.Common.{take}
use Rattle.conflict_learning.specs.Walk.{NotesAll}
use Rattle.conflict_learning.proofs.walk.Walk.note_all.Given as goal

abbrev pub invariant-loop-lit : goal.invariant-loop-lit
invariant-loop-lit l = NotesAll l.trail l.initial.self l.self (take l.lit-index l.lits)
