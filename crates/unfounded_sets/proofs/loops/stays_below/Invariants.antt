use Rattle.std.proofs.Common.{◌≡◌, ◌-◌, take}
use Rattle.unfounded_sets.specs.Wanted.{weight_off}
use Rattle.unfounded_sets.proofs.loops.stays_below.Given as goal

abbrev pub invariant-loop-it : goal.invariant-loop-it
invariant-loop-it l = l.left ≡ l.body.bound - weight_off l.part (take l.it-index l.it-items)
