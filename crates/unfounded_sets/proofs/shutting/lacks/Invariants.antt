use Rattle.std.proofs.Common.{◌≡◌, ◌-◌, take}
use Rattle.unfounded_sets.specs.Wanted.{weight_possible}
use Rattle.unfounded_sets.proofs.shutting.lacks.Given as goal

abbrev pub invariant-loop-part : goal.invariant-loop-part
invariant-loop-part l =
    l.left
    ≡ l.body.bound - weight_possible l.trail.steps l.set (take l.part-index l.part-items)
