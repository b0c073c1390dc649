use Rattle.std.proofs.Common.{◌≡◌, ◌++◌, flat_map, take}
use Rattle.pair_program.specs.Rules.{rules_of_rule}
use Rattle.pair_program.proofs.head_rules.push_rules.Given as goal

abbrev pub invariant-loop-normal : goal.invariant-loop-normal
invariant-loop-normal l =
    l.rules
    ≡ l.initial.rules ++ flat_map (rules_of_rule l.atoms.atoms) (take l.normal-index l.normals)
