use Rattle.ample_budgets.proofs.BudgetLemmas as lemma
use Rattle.ample_budgets.proofs.laws.parts_spend_little.Goals as goal

pub returns : goal.returns
returns c = lemma.parts_spend_little
