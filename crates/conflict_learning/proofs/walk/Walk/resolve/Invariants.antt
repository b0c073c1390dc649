use Rattle.conflict_learning.proofs.LearnedLemmas.{IsResolving}
use Rattle.conflict_learning.proofs.walk.Walk.resolve.Given as goal

abbrev pub invariant-loop-self : goal.invariant-loop-self
invariant-loop-self l = IsResolving l.store l.trail l.fn.self l.self l.step

abbrev pub decreases-loop-self : goal.decreases-loop-self
decreases-loop-self l = l.self.at
