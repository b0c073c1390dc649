use Rattle.std.proofs.Common.{take}
use Rattle.conflict_learning.specs.Minimisation.{CoversAll}
use Rattle.conflict_learning.proofs.minimisation.Judge.cover_all.Given as goal

abbrev pub invariant-loop-lit : goal.invariant-loop-lit
invariant-loop-lit l = CoversAll l.trail l.initial.self l.self (take l.lit-index l.lits)
