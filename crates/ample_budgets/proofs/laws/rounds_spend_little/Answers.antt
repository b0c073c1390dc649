use Rattle.ample_budgets.proofs.RoundLemmas.{round_spends_little, rounds_keep_selectors}
use Rattle.ample_budgets.proofs.laws.rounds_spend_little.Goals as goal

pub returns-clause-selectors : goal.returns-clause-selectors
returns-clause-selectors c = rounds_keep_selectors

pub returns-clause-spent : goal.returns-clause-spent
returns-clause-spent c = round_spends_little
