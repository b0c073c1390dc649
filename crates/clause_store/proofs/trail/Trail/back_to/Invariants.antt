use Rattle.std.proofs.Common.{◌≡◌, length}
use Rattle.clause_store.proofs.ReasonLemmas.{IsOnTheWay}
use Rattle.clause_store.proofs.trail.Trail.back_to.Given as goal

abbrev pub invariant-loop-self : goal.invariant-loop-self
invariant-loop-self l =
    (l.self.vars ≡ l.initial.self.vars) × IsOnTheWay l.level l.initial.self.steps l.self.steps

abbrev pub decreases-loop-self : goal.decreases-loop-self
decreases-loop-self l = length l.self.steps
