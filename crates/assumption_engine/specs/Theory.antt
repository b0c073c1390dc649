-- What contracts see of a theory, and its laws.
use Rattle.std.specs.Prelude.{◌≡◌, ◌↔◌, ◌⊎◌, ℕ, Bool, List, All, length, ⊤}
use Rattle.clause_store.specs.declared.literal.Lit.{Lit}
use Rattle.clause_store.specs.declared.step.Step.{Step}
use Rattle.clause_store.specs.Clause.{HasNoVariableTwice, HoldsIn, IsOver}
use Rattle.clause_store.specs.Standing.{IsFalseOn, ForcesOn}
use Rattle.clause_store.specs.Trail.{Assigned, values_of}
use Rattle.assumption_engine.specs.declared.check.Check.{Check}
use Rattle.assumption_engine.specs.declared.check.Check.TheVariants.{Accept, Clause as Given}
use Rattle.assumption_engine.specs.declared.check.Check.TheVariants.{Spent, NoMemory}

-- what a theory says: its models, which are total assignments; the greatest variable that it uses,
-- or 0; the clauses that it needs; which clauses it may give; and, for a total assignment, which
-- sets and units are a spent check of it
pub record Meaning : Type 1 where
  pub models : List Bool → Type 0
  pub greatest : ℕ
  pub needs : List (List Lit)
  pub may_give : List Lit → Type 0
  pub is_spent : List Bool → List Bool → List (List Lit) → Type 0

-- two theories say the same
pub record MeansTheSame (one two : Meaning) : Type 0 where
  pub models : (values : List Bool) → one.models values ↔ two.models values
  pub greatest : one.greatest ≡ two.greatest
  pub needs : one.needs ≡ two.needs
  pub may_give : (clause : List Lit) → one.may_give clause ↔ two.may_give clause
  pub is_spent :
      (values set : List Bool) (units : List (List Lit))
      → one.is_spent values set units ↔ two.is_spent values set units

-- all literals of a clause are false, or all but one, which is unset
abbrev pub IsFalseOrForces : List Step → List Lit → Type 0
IsFalseOrForces steps clause = IsFalseOn steps clause ⊎ ((lit : Lit) × ForcesOn steps clause lit)

-- what is true of a clause that a theory gives at a trail
pub record IsGiven (meaning : Meaning) (trail : Assigned) (clause : List Lit) : Type 0 where
  pub may : meaning.may_give clause
  pub holds : (values : List Bool) → meaning.models values → HoldsIn values clause
  pub once : HasNoVariableTwice clause
  pub over : All (IsOver trail.vars) clause
  pub standing : IsFalseOrForces trail.steps clause

-- a spent check has as many units as its limit
pub record IsSpentCheck (meaning : Meaning) (limit : ℕ) (values set : List Bool)
    (units : List (List Lit)) : Type 0 where
  pub spent : meaning.is_spent values set units
  pub as_many : length units ≡ limit

-- what each answer of a complete check says
abbrev pub IsChecked : Meaning → Assigned → ℕ → List Lit → Check → Type 0
IsChecked meaning trail limit out Accept = meaning.models (values_of trail)
IsChecked meaning trail limit out Given = IsGiven meaning trail out
IsChecked meaning trail limit out (Spent set units) =
    IsSpentCheck meaning limit (values_of trail) set units
IsChecked meaning trail limit out NoMemory = ⊤
