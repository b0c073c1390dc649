use Rattle.std.proofs.Common.{◌≡◌, ◌-◌, take}
use Rattle.unfounded_sets.specs.Founding.{founding_weight}
use Rattle.unfounded_sets.specs.Sources.{earlier}
use Rattle.unfounded_sets.proofs.firing.lacks.Given as goal

abbrev pub invariant-loop-part : goal.invariant-loop-part
invariant-loop-part l =
    l.left
    ≡ l.body.bound
    - founding_weight l.trail.steps (earlier l.rank l.ranks) (take l.part-index l.part-items)
