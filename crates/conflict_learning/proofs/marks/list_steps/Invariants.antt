use Rattle.std.specs.Prelude.{map}
use Rattle.conflict_learning.specs.Marks.{ListsVariables}
use Rattle.conflict_learning.proofs.marks.list_steps.Given as goal

abbrev pub invariant-loop-step : goal.invariant-loop-step
invariant-loop-step l =
    ListsVariables (map (λ step. step.lit) l.steps) l.initial.visited l.visited
