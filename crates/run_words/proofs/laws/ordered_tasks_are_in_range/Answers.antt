use Rattle.run_words.proofs.OrderLemmas.{ordered_in_range}
use Rattle.run_words.proofs.laws.ordered_tasks_are_in_range.Goals as goal

pub returns : goal.returns
returns c = ordered_in_range
