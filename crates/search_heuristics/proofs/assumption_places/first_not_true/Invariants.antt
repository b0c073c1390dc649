use Rattle.std.proofs.Common.{◌-◌, length, take}
use Rattle.search_heuristics.specs.Places.{AreTrueOn}
use Rattle.search_heuristics.proofs.assumption_places.first_not_true.Given as goal

abbrev pub invariant-places : goal.invariant-places
invariant-places l = AreTrueOn l.trail.steps (take l.at l.assumed)

abbrev pub decreases-places : goal.decreases-places
decreases-places l = length l.assumed - l.at
