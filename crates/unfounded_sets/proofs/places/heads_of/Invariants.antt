use Rattle.std.proofs.Common.{length, take}
use Rattle.unfounded_sets.specs.Placed.{AreJust, IsHeadIn}
use Rattle.unfounded_sets.proofs.places.heads_of.Given as goal

abbrev pub invariant-loop-rule : goal.invariant-loop-rule
invariant-loop-rule l =
    AreJust (IsHeadIn (take l.rule-index l.rule-items)) (length l.normal.bodies) l.lists.items
