use Rattle.std.proofs.Common.{◌+◌, take}
use Rattle.unfounded_sets.specs.Placed.{AreJust, IsHeadIn}
use Rattle.unfounded_sets.proofs.places.supports_of.Given as goal

abbrev pub invariant-loop-rule : goal.invariant-loop-rule
invariant-loop-rule l =
    AreJust (λ atom number. IsHeadIn (take l.rule-index l.rule-items) number atom)
    (l.normal.atoms + 1) l.lists.items
