use Rattle.std.proofs.Common.{get_or}
use Rattle.unfounded_sets.proofs.LookLemmas.{head_body, item_has}
use Rattle.unfounded_sets.proofs.growing.add_needed.Goals as goal

pub add_lost-requires-clause-within : goal.add_lost-requires-clause-within
add_lost-requires-clause-within c =
    let items = c.at-body-items.result.now in
    let at = c.loop-body.body-index in
    head_body c.args.normal.now (get_or items at 0) c.args.atom c.requires.covered.range
    ((c.requires.places.supports c.args.atom (get_or items at 0)).0
    (item_has c.args.places.now.supports c.args.atom items at c.at-body-items.ensures
    c.loop-body-test.true))
