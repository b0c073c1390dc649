use Rattle.normal_program.specs.Clauses.{rule_clauses}
use Rattle.completion.proofs.AddsLemmas.{read_stopped}
use Rattle.completion.proofs.rule_clauses.add_rules.Goals as goal

pub returns-in_err-add_rule : goal.returns-in_err-add_rule
returns-in_err-add_rule c =
    let normal = c.args.normal.now in
    read_stopped c.from_residual.result (rule_clauses normal) c.args.store.now c.loop-rule.store
    c.add_rule.new.store c.as_slice-rule-items.result.now normal.rules c.loop-rule.rule-index
    c.rule-item.result c.from_residual.ensures.0 c.as_slice-rule-items.ensures
    c.loop-rule-test.true c.rule-item.is c.loop-rule.invariant c.in_err-add_rule.ensures
