use Rattle.std.proofs.Common.{get_or}
use Rattle.unfounded_sets.proofs.LookLemmas.{head_atom, item_has}
use Rattle.unfounded_sets.proofs.refounding.found_heads.Goals as goal

pub found_head-requires-clause-head : goal.found_head-requires-clause-head
found_head-requires-clause-head c =
    (c.requires.places.heads c.args.body
    (get_or c.at-head-items.result.now c.loop-head.head-index 0)).0
    (item_has c.args.places.now.heads c.args.body c.at-head-items.result.now
    c.loop-head.head-index c.at-head-items.ensures c.loop-head-test.true)

pub found_head-requires-clause-is_atom : goal.found_head-requires-clause-is_atom
found_head-requires-clause-is_atom c =
    head_atom c.args.normal.now c.args.body
    (get_or c.at-head-items.result.now c.loop-head.head-index 0) c.requires.covered.range
    ((c.requires.places.heads c.args.body
    (get_or c.at-head-items.result.now c.loop-head.head-index 0)).0
    (item_has c.args.places.now.heads c.args.body c.at-head-items.result.now
    c.loop-head.head-index c.at-head-items.ensures c.loop-head-test.true))
