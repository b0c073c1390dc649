use Rattle.std.proofs.Common.{flat_map, take}
use Rattle.normal_program.specs.Clauses.{rule_clauses, cleaned}
use Rattle.completion.specs.Filling.{Gains}
use Rattle.completion.proofs.rule_clauses.add_rules.Given as goal

abbrev pub invariant-loop-rule : goal.invariant-loop-rule
invariant-loop-rule l =
    Gains l.initial.store l.store
    (cleaned (flat_map (rule_clauses l.normal) (take l.rule-index l.normal.rules)))
