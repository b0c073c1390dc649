use Rattle.std.proofs.Common.{◌≡◌, ◌-◌, take}
use Rattle.unfounded_sets.specs.Founding.{founding_weight}
use Rattle.unfounded_sets.proofs.founding.lacks.Given as goal

abbrev pub invariant-loop-part : goal.invariant-loop-part
invariant-loop-part l =
    l.left ≡ l.body.bound - founding_weight l.trail.steps l.set (take l.part-index l.part-items)
