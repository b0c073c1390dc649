use Rattle.std.proofs.Common.{◌≡◌, false, ◌&&◌, take}
use Rattle.std.specs.List.{list_any}
use Rattle.ground_program.specs.Meaning.{has}
use Rattle.normal_program.specs.declared.normal.Part.{Part}
use Rattle.completion.proofs.within.is_blocked_by.Given as goal

abbrev pub invariant-loop-part : goal.invariant-loop-part
invariant-loop-part l =
    list_any (λ (part : Part). part.lit.negated && has l.set part.lit.atom)
    (take l.part-index l.part-items)
    ≡ false
