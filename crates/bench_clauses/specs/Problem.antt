-- Clauses to be met, and what they mean as a theory.
use Rattle.std.specs.Prelude.{◌<◌, ◌^◌, ℕ, List, All}
use Rattle.clause_store.specs.declared.literal.Lit.{Lit}
use Rattle.clause_store.specs.Clause.{AreOver, IsClause, IsOver, Meets}
use Rattle.assumption_engine.specs.Theory.{Meaning}

-- a greatest variable, and clauses
pub record Posed : Type 0 where
  pub vars : ℕ
  pub clauses : List (List Lit)

-- the clauses are over the variables
pub record IsPosed (vars : ℕ) (clauses : List (List Lit)) : Type 0 where
  pub few : vars < 2 ^ 30
  pub over : AreOver vars clauses

-- a clause over the variables 1 to `vars`
pub record IsClauseOver (vars : ℕ) (clause : List Lit) : Type 0 where
  pub allowed : IsClause clause
  pub over : All (IsOver vars) clause

-- a theory whose models meet the clauses, and that gives none
abbrev pub meaning_of : List (List Lit) → Meaning
meaning_of clauses = record {
  models = λ values. Meets values clauses;
  greatest = 0;
  needs = clauses;
  may_give = λ clause. ⊥;
  is_spent = λ values set units. ⊥;
}
