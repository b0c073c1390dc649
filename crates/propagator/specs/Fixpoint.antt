-- What propagation does to a trail, and when it has nothing left to do.
use Rattle.std.specs.Prelude.{◌≡◌, ◌++◌, List, All, IsSome}
use Rattle.clause_store.specs.declared.literal.Lit.{Lit}
use Rattle.clause_store.specs.declared.step.Step.{Step}
use Rattle.clause_store.specs.Trail.{Assigned, present_level}
use Rattle.clause_store.specs.Standing.{IsFalseOn, ForcesOn}

-- a clause is neither false nor a unit
pub record IsQuietOn (steps : List Step) (clause : List Lit) : Type 0 where
  pub not_false : ¬ IsFalseOn steps clause
  pub not_unit : (lit : Lit) → ¬ ForcesOn steps clause lit

-- no clause is false, and none is a unit with its literal unset
abbrev pub IsFixpoint : List (List Lit) → List Step → Type 0
IsFixpoint clauses steps = All (IsQuietOn steps) clauses

-- assignments were put last, each forced by a clause and at the present level
pub record Extends (old new : Assigned) : Type 0 where
  pub vars : new.vars ≡ old.vars
  pub added : List Step
  pub steps : new.steps ≡ old.steps ++ added
  pub forced : All (λ step. IsSome step.reason) added
  pub present : All (λ step. step.level ≡ present_level old.steps) added
