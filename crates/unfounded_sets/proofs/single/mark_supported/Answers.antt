use Rattle.std.proofs.Common.{◌≡◌, ◌+◌, ◌∷◌, [], ◌++◌, take}
use Rattle.item_list.proofs.ListLemmas.{take_more_read}
use Rattle.unfounded_sets.proofs.SingleLemmas.{marks_more}
use Rattle.unfounded_sets.proofs.single.mark_supported.Goals as goal

pub loop-rule-preserved : goal.loop-rule-preserved
loop-rule-preserved c =
    let items = c.as_slice-rule-items.result.now in
    let at = c.loop-rule.rule-index in
    let rule = c.rule-item.result in
    let more : take (at + 1) items ≡ take at items ++ rule ∷ [] =
    take_more_read items at rule c.loop-rule-test.true c.rule-item.is in
    rw more
    (marks_more c.args.normal.now c.args.trail.now.steps (take at items) rule
    c.args.supported.now c.loop-rule.supported c.mark_heads.new.supported c.loop-rule.invariant
    c.mark_heads.ensures)
