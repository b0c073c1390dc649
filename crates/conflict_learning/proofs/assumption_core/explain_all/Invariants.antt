use Rattle.conflict_learning.proofs.CoreLemmas.{IsExplaining}
use Rattle.conflict_learning.proofs.assumption_core.explain_all.Given as goal

abbrev pub invariant-loop-at : goal.invariant-loop-at
invariant-loop-at l = IsExplaining l.store l.trail.steps l.last l.initial.core l.core l.at
