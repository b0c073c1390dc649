-- Laws of the words of this crate. Each is a clause of a function in src/laws.rt.
use Rattle.std.specs.Prelude.{◌≡◌, ◌≢◌, ◌≤◌, ◌+◌, ◌++◌, ◌↔◌, ℕ, Bool, List, [], ◌∷◌, take, All}
use Rattle.std.specs.Prelude.{AllPairs, Contains, IsSomeAnd, IsTrue}
use Rattle.clause_store.specs.declared.literal.Lit.{Lit}
use Rattle.clause_store.specs.declared.literal.ClauseRef.{ClauseRef}
use Rattle.clause_store.specs.declared.literal.Value.TheVariants.{Yes, Unset}
use Rattle.clause_store.specs.declared.step.Step.{Step}
use Rattle.clause_store.specs.Clause.{variable, makes_true, IsTrueIn, HoldsIn, Meets, HasAll}
use Rattle.clause_store.specs.Clause.{IsOver, AreOver}
use Rattle.clause_store.specs.Entailment.{Follows, InClosure, Refutes, Absorbs, AreUnits, IsUnit}
use Rattle.clause_store.specs.Entailment.{negations}
use Rattle.clause_store.specs.Standing.{IsFalseOn, ForcesOn, IsConflict}
use Rattle.clause_store.specs.Trail.{Assigned, IsTrail, IsTrailOf, IsTotal, KeepsTrails, value_of}
use Rattle.clause_store.specs.Trail.{level_of, present_level, up_to, values_of}

-- more clauses and more literals: each of one list is in the other
abbrev pub AreMoreClauses : List (List Lit) → List (List Lit) → Type 0
AreMoreClauses fewer more = All (Contains more) fewer

-- the closure only grows with the clauses and with the literals
abbrev pub ClosureGrows : Type 0
ClosureGrows =
    (fewer more : List (List Lit)) (few many : List Lit) (lit : Lit) → AreMoreClauses fewer more
    → HasAll many few
    → InClosure fewer few lit → InClosure more many lit

-- so what is refuted stays refuted
abbrev pub RefutingGrows : Type 0
RefutingGrows =
    (fewer more : List (List Lit)) (few many : List Lit) → AreMoreClauses fewer more
    → HasAll many few
    → Refutes fewer few → Refutes more many

-- and what is absorbed stays absorbed
abbrev pub AbsorbingGrows : Type 0
AbsorbingGrows =
    (fewer more : List (List Lit)) (clause : List Lit) → AreMoreClauses fewer more
    → Absorbs fewer clause → Absorbs more clause

-- a clause that has all literals of one of the clauses is absorbed by them
abbrev pub ContainingIsAbsorbed : Type 0
ContainingIsAbsorbed =
    (clauses : List (List Lit)) (clause part : List Lit) → Contains clauses part
    → HasAll clause part
    → Absorbs clauses clause

-- no clause of a list of units has all literals of an earlier one, so no two are equal
abbrev pub UnitsDiffer : Type 0
UnitsDiffer =
    (base units : List (List Lit)) → AreUnits base units
    → AllPairs (λ earlier later. (¬ HasAll later earlier) × (earlier ≢ later)) units

-- a unit beside all that came before it makes the list longer
abbrev pub UnitsGrow : Type 0
UnitsGrow =
    (base units : List (List Lit)) (unit : List Lit) → AreUnits base units
    → IsUnit (base ++ units) unit
    → AreUnits base (units ++ unit ∷ [])

-- what propagation gives from true literals is true in each assignment that meets the clauses
abbrev pub ClosureHolds : Type 0
ClosureHolds =
    (values : List Bool) (clauses : List (List Lit)) (lits : List Lit) (lit : Lit)
    → Meets values clauses
    → All (IsTrueIn values) lits → InClosure clauses lits lit → IsTrueIn values lit

-- where the negations of the literals of a clause are refuted, the clause follows
abbrev pub RefutedFollows : Type 0
RefutedFollows =
    (clauses : List (List Lit)) (clause : List Lit) → Refutes clauses (negations clause)
    → Follows clauses clause

-- a clause that is added to a store leaves a trail of the store one
abbrev pub TrailStays : Type 0
TrailStays =
    (clauses : List (List Lit)) (clause : List Lit) → KeepsTrails clauses (clauses ++ clause ∷ [])

-- the assignment of a total trail makes just the literals true that are true on the trail
abbrev pub TotalMeans : Type 0
TotalMeans =
    (trail : Assigned) (lit : Lit) → IsTotal trail → IsOver trail.vars lit
    → IsTrue (makes_true (values_of trail) lit) ↔ (value_of trail.steps lit ≡ Yes)

-- the variable of a literal was assigned at a level or before
abbrev pub IsAssignedBy : ℕ → List Step → Lit → Type 0
IsAssignedBy level steps lit = IsSomeAnd (level_of steps (variable lit)) (λ at. at ≤ level)

-- going back to a level keeps the value of a literal that was assigned at it or before and the
-- level of its variable, and unsets any other
pub record IsValuedAfterBack (level : ℕ) (steps : List Step) (lit : Lit) : Type 0 where
  pub kept : IsAssignedBy level steps lit → value_of (up_to level steps) lit ≡ value_of steps lit
  pub unset : ¬ IsAssignedBy level steps lit → value_of (up_to level steps) lit ≡ Unset
  pub same_level :
      IsAssignedBy level steps lit
      → level_of (up_to level steps) (variable lit) ≡ level_of steps (variable lit)

-- so on each trail
abbrev pub ValuesAfterBack : Type 0
ValuesAfterBack =
    (trail : Assigned) (level : ℕ) (lit : Lit) → IsTrail trail
    → IsValuedAfterBack level trail.steps lit

-- what stays after going back is a front of the trail
abbrev pub FrontAfterBack : Type 0
FrontAfterBack =
    (trail : Assigned) (level : ℕ) → IsTrail trail
    → (rest : List Step) × (trail.steps ≡ up_to level trail.steps ++ rest)

-- going back and then further back is going back to the lower level at once
abbrev pub BackTwice : Type 0
BackTwice =
    (low high : ℕ) (steps : List Step) → low ≤ high → up_to low (up_to high steps) ≡ up_to low steps

-- a clause over the variables 1 to `vars` holds in an assignment exactly where it holds in the
-- front of their values
abbrev pub HoldsInFront : Type 0
HoldsInFront =
    (vars : ℕ) (values : List Bool) (clause : List Lit) → All (IsOver vars) clause
    → HoldsIn values clause ↔ HoldsIn (take (vars + 1) values) clause

-- and so for a list of such clauses
abbrev pub MeetsInFront : Type 0
MeetsInFront =
    (vars : ℕ) (values : List Bool) (clauses : List (List Lit)) → AreOver vars clauses
    → Meets values clauses ↔ Meets (take (vars + 1) values) clauses

-- a literal has the value that it had, and its variable the level
pub record IsStill (old new : List Step) (lit : Lit) : Type 0 where
  pub value : value_of new lit ≡ value_of old lit
  pub level : level_of new (variable lit) ≡ level_of old (variable lit)

-- so it is for assigned literals when more assignments come last
abbrev pub ValuesStay : Type 0
ValuesStay =
    (steps added : List Step) (lit : Lit) → value_of steps lit ≢ Unset
    → IsStill steps (steps ++ added) lit

-- a clause that forces a literal does so after going back to a level by which its other literals
-- were assigned
abbrev pub ForcesAfterBack : Type 0
ForcesAfterBack =
    (trail : Assigned) (level : ℕ) (clause : List Lit) (lit : Lit) → IsTrail trail
    → ForcesOn trail.steps clause lit
    → All (λ other. other ≢ lit → IsAssignedBy level trail.steps other) clause
    → ForcesOn (up_to level trail.steps) clause lit

-- a clause that is false by the assignments of level 0 of a trail means that the clauses of the
-- trail, with this one, can't be met
abbrev pub FalseAtZero : Type 0
FalseAtZero =
    (trail : Assigned) (clauses : List (List Lit)) (clause : List Lit) (values : List Bool)
    → IsTrail trail → IsTrailOf trail.steps clauses → IsFalseOn (up_to 0 trail.steps) clause
    → HoldsIn values clause
    → ¬ Meets values clauses

-- so a conflict while the trail is at level 0 means that the store can't be met
abbrev pub ConflictAtZero : Type 0
ConflictAtZero =
    (trail : Assigned) (clauses : List (List Lit)) (at : ClauseRef) (values : List Bool)
    → IsTrail trail → IsTrailOf trail.steps clauses → present_level trail.steps ≡ 0
    → IsConflict clauses trail.steps at
    → ¬ Meets values clauses
