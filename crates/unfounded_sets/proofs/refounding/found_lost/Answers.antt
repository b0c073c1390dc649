use Rattle.std.proofs.Common.{get_or}
use Rattle.unfounded_sets.proofs.LookLemmas.{item_has}
use Rattle.unfounded_sets.proofs.refounding.found_lost.Goals as goal

pub found_by-requires-clause-head : goal.found_by-requires-clause-head
found_by-requires-clause-head c =
    (c.requires.places.supports c.args.atom
    (get_or c.at-body-items.result.now c.loop-body.body-index 0)).0
    (item_has c.args.places.now.supports c.args.atom c.at-body-items.result.now
    c.loop-body.body-index c.at-body-items.ensures c.loop-body-test.true)
