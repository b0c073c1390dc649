pub mod BudgetLemmas
pub mod RoundLemmas
