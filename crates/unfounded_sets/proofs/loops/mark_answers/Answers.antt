use Rattle.item_list.proofs.ListLemmas.{take_more_read}
use Rattle.unfounded_sets.proofs.WantedLemmas.{wants_more}
use Rattle.unfounded_sets.proofs.loops.mark_answers.Goals as goal

pub loop-rule-preserved : goal.loop-rule-preserved
loop-rule-preserved c =
    let more =
    take_more_read c.as_slice-rule-items.result.now c.loop-rule.rule-index c.rule-item.result
    c.loop-rule-test.true c.rule-item.is in
    rw more (wants_more c.args.normal.now c.args.trail.now.steps c.args.part.now _ c.rule-item.result
    c.args.wanted.now c.loop-rule.wanted c.mark_answer.new.wanted c.loop-rule.invariant
    (rw c.as_slice.ensures at c.mark_answer.ensures))
