use Rattle.run_words.proofs.OrderLemmas.{one_ordered}
use Rattle.run_words.proofs.laws.one_task_is_ordered.Goals as goal

pub returns : goal.returns
returns c = one_ordered
