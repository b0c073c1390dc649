use Rattle.std.proofs.Common.{length}
use Rattle.plain_entailment.proofs.choices.+holds_with_choices.Given as goal

abbrev pub decreases-holds_with_choices : goal.decreases-holds_with_choices
decreases-holds_with_choices l = length l.disjunctions.now
