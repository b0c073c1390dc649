use Rattle.std.specs.List.{AllWithin}
use Rattle.ground_program.specs.Meaning.{Keeps}
use Rattle.ground_program.proofs.meaning.first_failing.Given as goal

abbrev pub invariant-loop-at : goal.invariant-loop-at
invariant-loop-at l = AllWithin (Keeps l.set l.set) l.rules 0 l.at
