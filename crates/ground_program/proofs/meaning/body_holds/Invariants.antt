use Rattle.std.proofs.Common.{◌≡◌, ◌-◌, sum_by, take}
use Rattle.ground_program.specs.Meaning.{weight_in}
use Rattle.ground_program.proofs.meaning.body_holds.Given as goal

abbrev pub invariant-loop-part : goal.invariant-loop-part
invariant-loop-part l =
    l.left ≡ l.bound - sum_by (weight_in l.by l.set) (take l.part-index l.body)
