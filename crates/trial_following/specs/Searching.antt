-- What the tests keep of an engine over clauses alone.
use Rattle.std.specs.Prelude.{◌≡◌, ℕ, Bool, List, [], false, All}
use Rattle.clause_store.specs.declared.literal.Lit.{Lit}
use Rattle.clause_store.specs.Clause.{IsClause, IsOver, Meets}
use Rattle.search_state.specs.State.{Searched}
use Rattle.assumption_engine.specs.Engine.{IsRight}
use Rattle.assumption_engine.specs.Theory.{Meaning}

-- a clause over the variables 1 to `vars`
pub record IsClauseOver (vars : ℕ) (clause : List Lit) : Type 0 where
  pub allowed : IsClause clause
  pub over : All (IsOver vars) clause

-- a theory whose models meet the clauses, and that gives none
abbrev pub meaning_of : List (List Lit) → Meaning
meaning_of clauses = record {
  models = λ values. Meets values clauses;
  greatest = 0;
  needs = clauses;
  may_give = λ clause. ⊥;
  is_spent = λ values set units. ⊥;
}

-- the engine is right unless it is dead
abbrev pub IsSound : List (List Lit) → Searched → List (List Lit) → Bool → Type 0
IsSound clauses state defined dead =
    dead ≡ false → IsRight (meaning_of clauses) [] state defined
