-- What the analysis of a conflict gives.
use Rattle.std.specs.Prelude.{◌≡◌, ◌≢◌, ◌<◌, ◌≤◌, ℕ, max, List, [], ◌∷◌, All, Any, Contains}
use Rattle.std.specs.Prelude.{slice_get}
use Rattle.std.specs.Prelude.{Some, unwrap_or}
use Rattle.clause_store.specs.declared.literal.Lit.{Lit}
use Rattle.clause_store.specs.declared.literal.Var.{Var}
use Rattle.clause_store.specs.declared.literal.ClauseRef.{ClauseRef}
use Rattle.clause_store.specs.declared.step.Step.{Step}
use Rattle.clause_store.specs.Clause.{variable}
use Rattle.clause_store.specs.Trail.{level_of, present_level}

-- a variable is one of 1 to `vars`
pub record IsVariable (vars : ℕ) (var : Var) : Type 0 where
  pub first : 1 ≤ var.0
  pub last : var.0 ≤ vars

-- a literal is one of a clause of the store
abbrev pub StandsIn : List (List Lit) → Lit → Type 0
StandsIn clauses lit = Any (λ clause. Contains clause lit) clauses

-- the level at which the variable of a literal was assigned, or 0
abbrev pub level_at : List Step → Lit → ℕ
level_at steps lit = unwrap_or (level_of steps (variable lit)) 0

-- the greatest level of literals, or 0
abbrev pub greatest_level : List Step → List Lit → ℕ
greatest_level steps [] = 0
greatest_level steps (lit ∷ rest) = max (level_at steps lit) (greatest_level steps rest)

-- the clause of that number has a literal of the present level
abbrev pub HasPresent : List (List Lit) → List Step → ClauseRef → Type 0
HasPresent clauses steps at =
    (clause : List Lit) → slice_get clauses at.0 ≡ Some clause
    → Any (λ lit. level_at steps lit ≡ present_level steps) clause

-- a literal is the one of the present level in a clause
pub record IsAsserting (steps : List Step) (clause : List Lit) (lit : Lit) : Type 0 where
  pub here : Contains clause lit
  pub present : level_of steps (variable lit) ≡ Some (present_level steps)
  pub others : All (λ other. other ≢ lit → level_at steps other < present_level steps) clause
