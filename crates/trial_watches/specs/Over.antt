-- Clauses that a store takes.
use Rattle.std.specs.Prelude.{ℕ, List, All}
use Rattle.clause_store.specs.declared.literal.Lit.{Lit}
use Rattle.clause_store.specs.Clause.{IsClause, IsOver}

-- a clause over the variables 1 to `vars`
pub record IsClauseOver (vars : ℕ) (clause : List Lit) : Type 0 where
  pub allowed : IsClause clause
  pub over : All (IsOver vars) clause
