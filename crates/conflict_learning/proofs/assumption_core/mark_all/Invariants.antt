use Rattle.std.proofs.Common.{take}
use Rattle.conflict_learning.specs.Cells.{MarksAll}
use Rattle.conflict_learning.proofs.assumption_core.mark_all.Given as goal

abbrev pub invariant-loop-lit : goal.invariant-loop-lit
invariant-loop-lit l = MarksAll l.trail.steps l.last (take l.lit-index l.lits) l.initial.core l.core
