use Rattle.ground_program.proofs.MeaningLemmas.{some_fails}
use Rattle.ground_program.proofs.laws.some_rule_fails.Goals as goal

pub returns : goal.returns
returns c = some_fails
