use Rattle.std.proofs.Common.{◌≡◌, ◌++◌}
use Rattle.pair_program.specs.Rules.{atom_rules}
use Rattle.pair_program.proofs.atom_rules.push_atoms.Given as goal

abbrev pub invariant-loop-at : goal.invariant-loop-at
invariant-loop-at l =
    l.rules ≡ l.initial.rules ++ atom_rules l.atoms.atoms l.atoms.bodies l.at
