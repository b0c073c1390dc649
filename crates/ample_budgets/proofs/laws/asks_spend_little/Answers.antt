use Rattle.ample_budgets.proofs.BudgetLemmas.{ask_spends_little, asks_count, nothing_counted}
use Rattle.ample_budgets.proofs.laws.asks_spend_little.Goals as goal

pub returns-clause-begun : goal.returns-clause-begun
returns-clause-begun c = nothing_counted

pub returns-clause-counted : goal.returns-clause-counted
returns-clause-counted c = asks_count

pub returns-clause-spent : goal.returns-clause-spent
returns-clause-spent c = ask_spends_little
