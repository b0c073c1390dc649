use Rattle.ground_program.proofs.MeaningLemmas.{least-same}
use Rattle.ground_program.proofs.laws.answer_sets_are_least.Goals as goal

pub returns : goal.returns
returns c = least-same
