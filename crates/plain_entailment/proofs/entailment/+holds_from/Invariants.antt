use Rattle.std.proofs.Common.{length, ◌+◌, ◌-◌}
use Rattle.plain_entailment.proofs.entailment.+holds_from.Given as goal

abbrev pub decreases-holds_from : goal.decreases-holds_from
decreases-holds_from l = l.normal.now.atoms + 1 - length l.start.now
