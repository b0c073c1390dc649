use Rattle.std.proofs.Common.{◌≡◌, take}
use Rattle.std.specs.Prelude.{Contains}
use Rattle.unfounded_sets.specs.Placed.{ArePut}
use Rattle.unfounded_sets.proofs.places.enter_support.Given as goal

abbrev pub invariant-loop-head : goal.invariant-loop-head
invariant-loop-head l =
    ArePut (λ place item. (item ≡ l.rule.body) × Contains (take l.head-index l.head-items) place)
    l.initial.lists.items l.lists.items
