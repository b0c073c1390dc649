use Rattle.std.proofs.Common.{take}
use Rattle.clause_store.specs.Clause.{variable}
use Rattle.conflict_learning.proofs.ClearLemmas.{IsUnmarking}
use Rattle.conflict_learning.proofs.marks.unmark_lits.Given as goal

abbrev pub invariant-loop-lit : goal.invariant-loop-lit
invariant-loop-lit l = IsUnmarking variable l.initial.marks l.marks (take l.lit-index l.lits)
