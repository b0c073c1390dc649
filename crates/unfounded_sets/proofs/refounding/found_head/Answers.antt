use Rattle.std.proofs.Common.{rules, ◌≡◌, false}
use Rattle.normal_program.specs.Clauses.{positive}
use Rattle.unfounded_sets.specs.Founding.{is_false}
use Rattle.unfounded_sets.proofs.ValueLemmas.{not_false_if}
use Rattle.unfounded_sets.proofs.LookLemmas.{sources_may_get, fires_may_get}
use Rattle.unfounded_sets.proofs.refounding.found_head.Goals as goal

pub returns-then-not-is_false_atom-clause-sources :
    goal.returns-then-not-is_false_atom-clause-sources
returns-then-not-is_false_atom-clause-sources c =
    let steps = c.args.trail.now.steps in
    let out : is_false steps (positive c.args.head) ≡ false = search rules in
    sources_may_get c.args.normal.now steps c.args.head c.args.body c.args.sources.now
    c.give.new.self c.requires.sources c.requires.head c.requires.is_atom
    (not_false_if steps (positive c.args.head) out) c.requires.fires c.give.ensures

pub returns-then-not-is_false_atom-clause-fires : goal.returns-then-not-is_false_atom-clause-fires
returns-then-not-is_false_atom-clause-fires c =
    let steps = c.args.trail.now.steps in
    let out : is_false steps (positive c.args.head) ≡ false = search rules in
    fires_may_get c.args.normal.now steps c.args.head c.args.body c.args.sources.now
    c.give.new.self c.requires.sources c.requires.head c.requires.is_atom
    (not_false_if steps (positive c.args.head) out) c.requires.fires c.give.ensures
