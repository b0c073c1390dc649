use Rattle.std.proofs.Common.{arith}
use Rattle.conflict_learning.proofs.LearnedLemmas.{greatest_more}
use Rattle.conflict_learning.proofs.analysis.greatest_level.Goals as goal

pub loop-lit-preserved : goal.loop-lit-preserved
loop-lit-preserved c =
    grind (
      arith,
      greatest_more c.args.trail.now.steps c.args.lits.now c.loop-lit.lit-index
          (record { 0 = 0 }) c.loop-lit-test.true,
    )
