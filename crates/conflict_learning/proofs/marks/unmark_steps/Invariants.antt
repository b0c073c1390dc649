use Rattle.std.proofs.Common.{take}
use Rattle.clause_store.specs.Clause.{variable}
use Rattle.conflict_learning.proofs.ClearLemmas.{IsUnmarking}
use Rattle.conflict_learning.proofs.marks.unmark_steps.Given as goal

abbrev pub invariant-loop-step : goal.invariant-loop-step
invariant-loop-step l =
    IsUnmarking (λ step. variable step.lit) l.initial.marks l.marks (take l.step-index l.steps)
