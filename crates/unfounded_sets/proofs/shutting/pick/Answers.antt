use Rattle.unfounded_sets.proofs.GrownLemmas.{adds_then, pick_at}
use Rattle.unfounded_sets.proofs.shutting.pick.Goals as goal

pub loop-part-preserved : goal.loop-part-preserved
loop-part-preserved c =
    let so_far = c.loop-part.invariant in
    record {
      adds =
          adds_then c.args.normal.now c.args.lits.now c.loop-part.lits c.pick_one-left.new.lits
          so_far.adds c.pick_one-left.ensures.adds;
      some = c.pick_one-left.ensures.some;
      below =
          pick_at c.args.trail.now.steps c.args.set.now c.as_slice-part-items.result.now
          c.loop-part.part-index _ c.loop-part.lits.marks c.pick_one-left.new.lits.marks
          c.loop-part.left c.pick_one-left.result c.args.lacked so_far.below
          c.pick_one-left.ensures.adds.more c.loop-part-test.true c.pick_one-left.ensures.step;
    }
