use Rattle.std.proofs.Common.{◌≡◌, take}
use Rattle.ground_program.specs.Validity.{atoms_of_names}
use Rattle.ground_program.specs.Program.{greatest}
use Rattle.ground_program.proofs.validity.greatest_in_names.Given as goal

abbrev pub invariant-loop-named : goal.invariant-loop-named
invariant-loop-named l = l.most ≡ greatest (atoms_of_names (take l.named-index l.names))
