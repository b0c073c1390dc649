-- What contracts see of a budget.
use Rattle.std.specs.Prelude.{ℕ, List}
use Rattle.clause_store.specs.declared.literal.Lit.{Lit}

-- how many clauses may be counted, and those that were
pub record Counted : Type 0 where
  pub limit : ℕ
  pub units : List (List Lit)
