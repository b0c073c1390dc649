use Rattle.std.proofs.Common.{◌≡◌, take, flat_map}
use Rattle.ground_program.specs.Program.{greatest, atoms_of_rule}
use Rattle.ground_program.proofs.validity.greatest_in_rules.Given as goal

abbrev pub invariant-loop-rule : goal.invariant-loop-rule
invariant-loop-rule l = l.most ≡ greatest (flat_map atoms_of_rule (take l.rule-index l.rules))
