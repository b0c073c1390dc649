use Rattle.std.proofs.Common.{get_or, take, sym, subst}
use Rattle.std.proofs.lemmas.List.{take_more}
use Rattle.unfounded_sets.specs.Sources.{AreMarked}
use Rattle.unfounded_sets.proofs.ChangeLemmas.{mark_more}
use Rattle.unfounded_sets.proofs.sources.doubt_all.Goals as goal

pub loop-body-preserved : goal.loop-body-preserved
loop-body-preserved c =
    let bodies = c.args.bodies.now in
    let at = c.loop-body.body-index in
    subst (λ all. AreMarked all c.args.doubted.now c.doubt.new.doubted)
    (sym (take_more bodies at 0 c.loop-body-test.true))
    (mark_more (take at bodies) (get_or bodies at 0) c.args.doubted.now c.loop-body.doubted
    c.doubt.new.doubted c.loop-body.invariant c.doubt.ensures)
