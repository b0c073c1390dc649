use Rattle.std.proofs.Common.{◌≡◌, ◌-◌, length}
use Rattle.clause_store.specs.Standing.{AreFollowed}
use Rattle.unfounded_sets.proofs.unfounded.Unfounded.follow.Given as goal

abbrev pub invariant-loop-steps : goal.invariant-loop-steps
invariant-loop-steps l = record {
  followed : AreFollowed l.trail.steps l.self.followed;
  rest : l.self ≡ record l.initial.self { followed = l.self.followed };
}

abbrev pub decreases-loop-steps : goal.decreases-loop-steps
decreases-loop-steps l = length l.trail.steps - length l.self.followed
