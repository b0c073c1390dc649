use Rattle.conflict_learning.proofs.CoreLemmas.{IsBlanking}
use Rattle.conflict_learning.proofs.assumption_core.add_blanks.Given as goal

abbrev pub invariant-loop-low : goal.invariant-loop-low
invariant-loop-low l = IsBlanking l.trail.steps l.last l.initial.core l.core l.low

abbrev pub decreases-loop-low : goal.decreases-loop-low
decreases-loop-low l = l.low
