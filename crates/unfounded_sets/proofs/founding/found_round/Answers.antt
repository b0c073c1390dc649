use Rattle.item_list.proofs.ListLemmas.{take_more_read}
use Rattle.unfounded_sets.proofs.FoundingLemmas.{tries_grew, tries_same}
use Rattle.unfounded_sets.proofs.founding.found_round.Goals as goal
use Rattle.unfounded_sets.proofs.founding.found_round.Goals.{then-found_by, else-found_by}

pub loop-rule-preserved : goal.loop-rule-preserved
loop-rule-preserved c =
    let more =
    take_more_read c.as_slice-rule-items.result.now c.loop-rule.rule-index c.rule-item.result
    c.loop-rule-test.true c.rule-item.is in
    rw more (elim c.if-found_by.branch [
      | then-found_by w ↦
          rw w.grew-is
          (tries_grew c.args.normal.now c.args.trail.now.steps _ c.rule-item.result
          c.args.founded.now c.loop-rule.founded c.found_by.new.founded c.loop-rule.grew
          c.loop-rule.invariant (rw w.if-found_by.true at c.found_by.ensures))
      | else-found_by w ↦
          rw w.grew-is
          (tries_same c.args.normal.now c.args.trail.now.steps _ c.rule-item.result
          c.args.founded.now c.loop-rule.founded c.found_by.new.founded c.loop-rule.grew
          c.loop-rule.invariant (rw w.if-found_by.false at c.found_by.ensures))
    ])
