use Rattle.unfounded_sets.proofs.FoundingLemmas.{tries_reached}
use Rattle.unfounded_sets.proofs.founding.found_by.Goals as goal

pub returns-then-is_reached : goal.returns-then-is_reached
returns-then-is_reached c =
    tries_reached c.args.normal.now c.args.trail.now.steps c.args.rule.now c.args.founded.now
    c.add_heads.new.founded c.add_heads.result
    (c.is_reached.ensures.0 c.if-is_reached.true) c.add_heads.ensures
