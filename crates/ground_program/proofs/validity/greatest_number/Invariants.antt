use Rattle.std.proofs.Common.{◌≡◌, take}
use Rattle.ground_program.specs.Program.{greatest}
use Rattle.ground_program.proofs.validity.greatest_number.Given as goal

abbrev pub invariant-loop-number : goal.invariant-loop-number
invariant-loop-number l = l.most ≡ greatest (take l.number-index l.numbers)
