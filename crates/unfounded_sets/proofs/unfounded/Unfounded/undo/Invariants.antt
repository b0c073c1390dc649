use Rattle.std.proofs.Common.{◌≡◌, length, take}
use Rattle.unfounded_sets.proofs.unfounded.Unfounded.undo.Given as goal

abbrev pub invariant-loop-self : goal.invariant-loop-self
invariant-loop-self l = record {
  left :
      take (length l.trail.steps) l.self.followed
      ≡ take (length l.trail.steps) l.initial.self.followed;
  rest : l.self ≡ record l.initial.self { followed = l.self.followed };
}

abbrev pub decreases-loop-self : goal.decreases-loop-self
decreases-loop-self l = length l.self.followed
