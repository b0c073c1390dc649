use Rattle.std.proofs.Common.{◌≡◌, take}
use Rattle.ground_program.specs.Validity.{atoms_of_body}
use Rattle.ground_program.specs.Program.{greatest}
use Rattle.ground_program.proofs.validity.greatest_in_body.Given as goal

abbrev pub invariant-loop-part : goal.invariant-loop-part
invariant-loop-part l = l.most ≡ greatest (atoms_of_body (take l.part-index l.body))
