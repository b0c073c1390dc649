use Rattle.std.proofs.Common.{◌≡◌, ◌++◌, take}
use Rattle.pair_program.specs.Rules.{body_rules}
use Rattle.pair_program.proofs.body_rules.push_bodies.Given as goal

abbrev pub invariant-loop-number : goal.invariant-loop-number
invariant-loop-number l =
    l.rules ≡ l.initial.rules ++ body_rules l.atoms.atoms 0 (take l.number l.bodies)
