use Rattle.std.proofs.Common.{get_or}
use Rattle.unfounded_sets.proofs.LookLemmas.{item_has, occurrence_body}
use Rattle.unfounded_sets.proofs.refounding.found_with.Goals as goal

pub found_heads-requires-clause-within : goal.found_heads-requires-clause-within
found_heads-requires-clause-within c =
    occurrence_body c.args.normal.now c.args.places.now c.positive.result.0
    (get_or c.at-body-items.result.now c.loop-body.body-index 0) c.requires.places
    (item_has c.args.places.now.occurrences c.positive.result.0 c.at-body-items.result.now
    c.loop-body.body-index c.at-body-items.ensures c.loop-body-test.true)
