use Rattle.std.proofs.Common.{◌≡◌, ◌-◌, sum_by, take}
use Rattle.pair_program.specs.Pairs.{rules_for}
use Rattle.pair_program.proofs.sizes.left_of.Given as goal

abbrev pub invariant-loop-rule : goal.invariant-loop-rule
invariant-loop-rule l =
    l.left ≡ l.most - sum_by rules_for (take l.rule-index l.rules)
