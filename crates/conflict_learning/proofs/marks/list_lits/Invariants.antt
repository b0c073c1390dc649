use Rattle.conflict_learning.specs.Marks.{ListsVariables}
use Rattle.conflict_learning.proofs.marks.list_lits.Given as goal

abbrev pub invariant-loop-lit : goal.invariant-loop-lit
invariant-loop-lit l = ListsVariables l.lits l.initial.visited l.visited
