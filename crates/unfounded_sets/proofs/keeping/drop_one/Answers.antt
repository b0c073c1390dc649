use Rattle.unfounded_sets.proofs.LookLemmas.{looks_drop}
use Rattle.unfounded_sets.proofs.keeping.drop_one.Goals as goal

pub returns-then-not-stands : goal.returns-then-not-stands
returns-then-not-stands c =
    looks_drop c.args.normal.now c.args.trail.now.steps c.args.places.now c.args.body c.args.head
    c.args.sources.now c.drop_source.new.self c.requires.places c.drop_source.ensures
    (c.is_by.ensures.0 c.if-is_by.true).0
