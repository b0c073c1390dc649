use Rattle.std.proofs.Common.{◌≡◌, take}
use Rattle.weight_propagator.proofs.occurrences.Occurrences.of.Given as goal

abbrev pub invariant-loop-list : goal.invariant-loop-list
invariant-loop-list l = l.all ≡ take l.list-index l.lists
