use Rattle.std.proofs.Common.{◌≡◌, ◌-◌, sum_by, take}
use Rattle.normal_program.specs.Body.{part_weight}
use Rattle.plain_entailment.proofs.truth.is_met.Given as goal

abbrev pub invariant-loop-part : goal.invariant-loop-part
invariant-loop-part l =
    l.left ≡ l.body.bound - sum_by (part_weight l.set l.set) (take l.part-index l.body.parts)
