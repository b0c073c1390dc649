use Rattle.normal_program.specs.Spent.{inner_choice_clauses}
use Rattle.completion.proofs.AddsLemmas.{read_stopped}
use Rattle.completion.proofs.within.add_choices.Goals as goal

pub returns-in_err-add_choice : goal.returns-in_err-add_choice
returns-in_err-add_choice c =
    let normal = c.args.normal.now in
    read_stopped c.from_residual.result (inner_choice_clauses normal c.args.set.now)
    c.args.store.now c.loop-rule.store c.add_choice.new.store c.as_slice-rule-items.result.now
    normal.rules c.loop-rule.rule-index c.rule-item.result c.from_residual.ensures.0
    c.as_slice-rule-items.ensures c.loop-rule-test.true c.rule-item.is c.loop-rule.invariant
    c.in_err-add_choice.ensures
