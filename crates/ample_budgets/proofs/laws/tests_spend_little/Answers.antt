use Rattle.ample_budgets.proofs.BudgetLemmas.{test_spends_little, tests_count}
use Rattle.ample_budgets.proofs.laws.tests_spend_little.Goals as goal

pub returns-clause-counted : goal.returns-clause-counted
returns-clause-counted c = tests_count

pub returns-clause-spent : goal.returns-clause-spent
returns-clause-spent c = test_spends_little
