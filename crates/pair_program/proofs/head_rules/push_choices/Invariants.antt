use Rattle.std.proofs.Common.{◌≡◌, ◌++◌, map, take}
use Rattle.pair_program.specs.Rules.{choice_rule}
use Rattle.pair_program.proofs.head_rules.push_choices.Given as goal

abbrev pub invariant-loop-head : goal.invariant-loop-head
invariant-loop-head l =
    l.rules
    ≡ l.initial.rules ++ map (choice_rule l.atoms.atoms l.body) (take l.head-index l.heads)
