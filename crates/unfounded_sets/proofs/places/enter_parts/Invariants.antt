use Rattle.std.proofs.Common.{◌≡◌, take}
use Rattle.unfounded_sets.specs.Placed.{ArePut, StandsAt}
use Rattle.unfounded_sets.proofs.places.enter_parts.Given as goal

abbrev pub invariant-loop-part : goal.invariant-loop-part
invariant-loop-part l =
    ArePut (λ place item. (item ≡ l.number) × StandsAt (take l.part-index l.parts) place)
    l.initial.lists.items l.lists.items
