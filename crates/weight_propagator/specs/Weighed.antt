-- What contracts see of weight bodies that are followed, and what is promised of a clause.
use Rattle.std.specs.Prelude.{◌≡◌, ◌⊎◌, ℕ, Bool, List, All, Option, None, Some, slice_get}
use Rattle.clause_store.specs.declared.literal.Lit.{Lit}
use Rattle.clause_store.specs.declared.theory_says.Says.{Says}
use Rattle.clause_store.specs.declared.theory_says.Says.TheVariants.{Quiet, Clause as Given}
use Rattle.clause_store.specs.Clause.{HasNoVariableTwice, IsOver}
use Rattle.clause_store.specs.Trail.{Assigned}
use Rattle.clause_store.specs.Standing.{Followed, IsFalseOn, ForcesOn}
use Rattle.normal_program.specs.declared.normal.BodyOf.{BodyOf}
use Rattle.normal_program.specs.declared.normal.Normal.{Normal}
use Rattle.normal_program.specs.Body.{IsWeightBody}
use Rattle.normal_program.specs.Normal.{body_var}
use Rattle.normal_program.specs.Loop.{FollowsFromBody, IsLocalWithin}
use Rattle.weight_propagator.specs.Gives.{Gives, IsQuiet}

-- the normal form, the set that judges its negative literals, if one does, and the assignments that
-- are followed
pub record Weighed : Type 0 where
  pub normal : Normal
  pub inside : Option (List Bool)
  pub followed : List Followed

-- the clause speaks of one weight body and holds by its meaning: for every set, or, where a set
-- judges, for each part of that set
abbrev pub FollowsFor : Option (List Bool) → Normal → List Lit → Type 0
FollowsFor None normal clause = FollowsFromBody normal clause
FollowsFor (Some set) normal clause = IsLocalWithin normal set clause

-- all literals are false, or all but one, and that one is unset
abbrev pub IsFalseButOne : Assigned → List Lit → Type 0
IsFalseButOne trail clause =
    IsFalseOn trail.steps clause ⊎ ((lit : Lit) × ForcesOn trail.steps clause lit)

-- some weight body gives a clause
pub record SomeGives (inside : Option (List Bool)) (normal : Normal) (trail : Assigned) :
    Type 0 where
  pub number : ℕ
  pub body : BodyOf
  pub here : slice_get normal.bodies number ≡ Some body
  pub weight : IsWeightBody body
  pub gives : Gives inside trail.steps (body_var normal number) body

-- a clause that is given
pub record IsGiven (inside : Option (List Bool)) (normal : Normal) (trail : Assigned)
    (clause : List Lit) : Type 0 where
  pub some : SomeGives inside normal trail
  pub follows : FollowsFor inside normal clause
  pub standing : IsFalseButOne trail clause
  pub once : HasNoVariableTwice clause
  pub over : All (IsOver trail.vars) clause

-- what is answered, with the clause that is written: nothing exactly where no weight body gives a
-- clause
abbrev pub IsSaid : Option (List Bool) → Normal → Assigned → List Lit → Says → Type 0
IsSaid inside normal trail clause Quiet = IsQuiet inside normal trail.steps
IsSaid inside normal trail clause Given = IsGiven inside normal trail clause
