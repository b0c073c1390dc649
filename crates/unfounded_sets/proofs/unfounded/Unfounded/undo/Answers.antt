use Rattle.std.proofs.Common.{ap, arith, length}
use Rattle.unfounded_sets.proofs.TrailLemmas.{left_followed}
use Rattle.unfounded_sets.proofs.unfounded.Unfounded.undo.Goals as goal

pub returns-clause-followed : goal.returns-clause-followed
returns-clause-followed c =
    left_followed c.args.trail.now c.args.self.now.followed c.loop-self.self.followed
    c.requires c.loop-self.invariant.left
    (omega (
      arith,
      c.loop-self-test.false,
      c.count.ensures,
      ap length c.steps-left.ensures.steps,
    ))
