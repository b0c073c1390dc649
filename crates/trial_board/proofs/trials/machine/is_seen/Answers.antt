use Rattle.std.proofs.Common.{arith}
use Rattle.trial_board.proofs.MachineLemmas.{few_steps, legal}
use Rattle.trial_board.proofs.trials.machine.is_seen.Goals as goal

pub step-requires-clause-legal : goal.step-requires-clause-legal
step-requires-clause-legal c =
    legal c.args.normal.now c.requires.three c.requires.outside _ c.in_ok-core.ensures

pub step-requires-clause-few : goal.step-requires-clause-few
step-requires-clause-few c =
    omega (
      arith,
      few_steps c.args.normal.now c.requires.three c.requires.outside _ c.in_ok-core.ensures,
    )
