-- How literals and clauses stand on a trail, and which assignments are followed.
use Rattle.std.specs.Prelude.{◌≡◌, ◌≢◌, ℕ, List, length, map, take, slice_get, All, Contains}
use Rattle.std.specs.Prelude.{Some}
use Rattle.clause_store.specs.declared.literal.Lit.{Lit}
use Rattle.clause_store.specs.declared.literal.ClauseRef.{ClauseRef}
use Rattle.clause_store.specs.declared.literal.Value.TheVariants.{No, Unset}
use Rattle.clause_store.specs.declared.step.Step.{Step}
use Rattle.clause_store.specs.Trail.{Assigned, IsTrail, value_of, up_to}

-- a literal is false by the assignments
abbrev pub IsFalse : List Step → Lit → Type 0
IsFalse steps lit = value_of steps lit ≡ No

-- all literals of a clause are false
abbrev pub IsFalseOn : List Step → List Lit → Type 0
IsFalseOn steps clause = All (IsFalse steps) clause

-- a literal of a clause is unset, and all others are false
pub record ForcesOn (steps : List Step) (clause : List Lit) (lit : Lit) : Type 0 where
  pub here : Contains clause lit
  pub unset : value_of steps lit ≡ Unset
  pub others : All (λ other. other ≢ lit → IsFalse steps other) clause

-- the clause of that number is false
pub record IsConflict (clauses : List (List Lit)) (steps : List Step) (at : ClauseRef) :
    Type 0 where
  pub clause : List Lit
  pub named : slice_get clauses at.0 ≡ Some clause
  pub is_false : IsFalseOn steps clause

-- an assignment by its literal, with its level
pub record Followed : Type 0 where
  pub lit : Lit
  pub level : ℕ

-- an assignment as it is followed
abbrev pub as_followed : Step → Followed
as_followed step = record { lit = step.lit; level = step.level }

-- the followed assignments are a front of the trail, in order and with their levels
abbrev pub AreFollowed : List Step → List Followed → Type 0
AreFollowed steps followed = followed ≡ map as_followed (take (length followed) steps)

-- the followed assignments were a front of an earlier trail, and the trail is what that has up to a
-- level
pub record HasGoneBack (trail : Assigned) (followed : List Followed) : Type 0 where
  pub earlier : List Step
  pub level : ℕ
  pub was_trail : IsTrail (record trail { steps = earlier })
  pub were_followed : AreFollowed earlier followed
  pub went_back : trail.steps ≡ up_to level earlier

-- whatever was followed on the old trail has gone back on the new one
abbrev pub GoesBack : Assigned → Assigned → Type 0
GoesBack old new =
    (followed : List Followed) → AreFollowed old.steps followed → HasGoneBack new followed
