use Rattle.std.proofs.Common.{subst}
use Rattle.unfounded_sets.specs.Sources.{Fires, earlier}
use Rattle.unfounded_sets.proofs.LookLemmas.{head_atom, sources_may_get}
use Rattle.unfounded_sets.proofs.refounding.found_by.Goals as goal

pub returns-then-fires-clause-sources : goal.returns-then-fires-clause-sources
returns-then-fires-clause-sources c =
    let normal = c.args.normal.now in
    let steps = c.args.trail.now.steps in
    let old = c.args.sources.now in
    sources_may_get normal steps c.args.atom c.args.body old c.give.new.self c.requires.sources
    c.requires.head
    (head_atom normal c.args.body c.args.atom c.requires.covered.range c.requires.head)
    c.requires.possible
    (subst (λ ranks. Fires normal steps (earlier old.next ranks) c.args.body)
    c.as_slice.ensures.value (c.fires.ensures.0 c.if-fires.true)) c.give.ensures
