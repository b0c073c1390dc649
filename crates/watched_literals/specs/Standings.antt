-- How a clause stands on a trail: one of four cases.
use Rattle.std.specs.Prelude.{◌≡◌, ◌≢◌, List, All, Any, Contains}
use Rattle.clause_store.specs.declared.literal.Lit.{Lit}
use Rattle.clause_store.specs.declared.literal.Value.TheVariants.{Yes, Unset}
use Rattle.clause_store.specs.declared.step.Step.{Step}
use Rattle.clause_store.specs.Trail.{value_of}
use Rattle.clause_store.specs.Standing.{IsFalseOn, ForcesOn}
use Rattle.watched_literals.specs.declared.standing.Standing.{Standing}
use Rattle.watched_literals.specs.declared.standing.Standing.TheVariants.{Satisfied, Open}
use Rattle.watched_literals.specs.declared.standing.Standing.TheVariants.{Unit as UnitLit, False}

-- no literal is true
abbrev pub HasNoneTrue : List Step → List Lit → Type 0
HasNoneTrue steps clause = All (λ lit. value_of steps lit ≢ Yes) clause

-- no literal is true, and at least two are unset
pub record IsOpenOn (steps : List Step) (clause : List Lit) : Type 0 where
  pub none_true : HasNoneTrue steps clause
  pub one : Lit
  pub two : Lit
  pub differ : one ≢ two
  pub one_here : Contains clause one
  pub two_here : Contains clause two
  pub one_unset : value_of steps one ≡ Unset
  pub two_unset : value_of steps two ≡ Unset

-- what each case says of the clause
abbrev pub IsStanding : List Step → List Lit → Standing → Type 0
IsStanding steps clause Satisfied = Any (λ lit. value_of steps lit ≡ Yes) clause
IsStanding steps clause Open = IsOpenOn steps clause
IsStanding steps clause (UnitLit lit) = ForcesOn steps clause lit
IsStanding steps clause False = IsFalseOn steps clause
