use Rattle.std.proofs.Common.{◌<◌, ◌+◌, ◌*◌}
use Rattle.unfounded_sets.specs.Placed.{AreJust, IsOccurrence}
use Rattle.unfounded_sets.proofs.places.occurrences_of.Given as goal

abbrev pub invariant-loop-number : goal.invariant-loop-number
invariant-loop-number l =
    AreJust (λ code number. (number < l.number) × IsOccurrence l.normal.bodies code number)
    (2 * l.normal.atoms + 2) l.lists.items
