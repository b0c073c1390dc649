use Rattle.std.proofs.Common.{arith}
use Rattle.watched_literals.proofs.KnownLemmas.{yes_by, yes_present}
use Rattle.watched_literals.proofs.settled.is_true_by.Goals as goal

pub returns-then-level : goal.returns-then-level
returns-then-level c =
    λ yes. yes_present c.args.trail.now.steps c.args.level c.args.lit
    (c.is_true.ensures.0 c.if-is_true.true)
    (omega (arith, c.if-level.true, c.level.ensures.level))

pub returns-else-level : goal.returns-else-level
returns-else-level c =
    λ yes. yes_by c.args.trail.now.steps c.args.level c.args.lit
    (c.is_true.ensures.0 c.if-is_true.true) (c.is_assigned_by.ensures yes)
