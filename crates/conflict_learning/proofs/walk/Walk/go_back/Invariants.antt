use Rattle.conflict_learning.proofs.WalkLemmas.{IsSearching}
use Rattle.conflict_learning.proofs.walk.Walk.go_back.Given as goal

abbrev pub invariant-loop-self : goal.invariant-loop-self
invariant-loop-self l = IsSearching l.trail l.initial.self l.self

abbrev pub decreases-loop-self : goal.decreases-loop-self
decreases-loop-self l = l.self.at
