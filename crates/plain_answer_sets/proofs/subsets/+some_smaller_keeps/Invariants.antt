use Rattle.std.proofs.Common.{length, ◌-◌}
use Rattle.plain_answer_sets.proofs.subsets.+some_smaller_keeps.Given as goal

abbrev pub decreases-some_smaller_keeps : goal.decreases-some_smaller_keeps
decreases-some_smaller_keeps l = length l.trial.now - l.at
