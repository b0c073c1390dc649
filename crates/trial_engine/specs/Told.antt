-- Theories that are lists of clauses, and what the tests keep of an engine over one.
use Rattle.std.specs.Prelude.{◌≡◌, ℕ, Bool, List, true, false, All, Contains, [], length, ⊤}
use Rattle.clause_store.specs.declared.literal.Lit.{Lit}
use Rattle.clause_store.specs.declared.step.Step.{Step}
use Rattle.clause_store.specs.declared.theory_says.Says.{Says}
use Rattle.clause_store.specs.declared.theory_says.Says.TheVariants.{Quiet, Clause}
use Rattle.clause_store.specs.Clause.{IsClause, IsOver, Meets}
use Rattle.propagator.specs.Fixpoint.{IsFixpoint}
use Rattle.assumption_engine.specs.Theory.{IsFalseOrForces, Meaning}
use Rattle.assumption_engine.specs.declared.check.Check.{Check}
use Rattle.assumption_engine.specs.declared.check.Check.TheVariants.{Accept, Clause as Given}
use Rattle.assumption_engine.specs.declared.check.Check.TheVariants.{Spent, NoMemory}

-- the greatest variable, the clauses that the store has from the beginning, those that may be
-- given, and whether each model is answered as spent
pub record Told : Type 0 where
  pub vars : ℕ
  pub base : List (List Lit)
  pub clauses : List (List Lit)
  pub spends : Bool

-- an assignment meets both
pub record IsToldModel (told : Told) (values : List Bool) : Type 0 where
  pub base : Meets values told.base
  pub clauses : Meets values told.clauses

-- what they mean as a theory
abbrev pub meaning_of : Told → Meaning
meaning_of told = record {
  models = IsToldModel told;
  greatest = told.vars;
  needs = told.base;
  may_give = Contains told.clauses;
  is_spent = λ values set units. told.spends ≡ true;
}

-- a clause over the variables 1 to `vars`
pub record IsClauseOver (vars : ℕ) (clause : List Lit) : Type 0 where
  pub allowed : IsClause clause
  pub over : All (IsOver vars) clause

-- where a clause was written, it is one of the clauses and is false or forces a literal; otherwise
-- none does so
pub record HasFound (clauses : List (List Lit)) (steps : List Step) (out : List Lit) (says : Says) :
    Type 0 where
  pub one : says ≡ Clause → Contains clauses out
  pub acts : says ≡ Clause → IsFalseOrForces steps out
  pub none : says ≡ Quiet → IsFixpoint clauses steps

-- a check that is spent, with as many clauses as its limit
abbrev pub IsSpentAt : ℕ → Check → Type 0
IsSpentAt limit Accept = ⊥
IsSpentAt limit Given = ⊥
IsSpentAt limit (Spent set units) = length units ≡ limit
IsSpentAt limit NoMemory = ⊤

-- what is answered of a model
abbrev pub IsEndOf : Bool → ℕ → Check → Type 0
IsEndOf spends limit Accept = spends ≡ false
IsEndOf spends limit Given = ⊥
IsEndOf spends limit (Spent set units) = (spends ≡ true) × (length units ≡ limit)
IsEndOf spends limit NoMemory = ⊤
