-- The walk back over a trail: what is true on the way, and what each step does. No public clause
-- cites this module.
use Rattle.std.specs.Prelude.{◌≡◌, ◌≢◌, ◌<◌, ◌≤◌, ◌^◌, ℕ, Bool, List, [], ◌∷◌, ◌++◌, length, take}
use Rattle.std.specs.Prelude.{All, Any, Contains, IsTrue, count_by, slice_get, Some}
use Rattle.clause_store.specs.declared.literal.Lit.{Lit}
use Rattle.clause_store.specs.declared.step.Step.{Step}
use Rattle.clause_store.specs.Clause.{variable, negation, HasAll, HasNoVariableTwice, IsOver}
use Rattle.clause_store.specs.Entailment.{IsClosed, Refutes, negations}
use Rattle.clause_store.specs.Trail.{Assigned, IsTrail, level_of, present_level}
use Rattle.clause_store.specs.Standing.{IsFalse}
use Rattle.conflict_learning.specs.Analysis.{StandsIn, level_at}
use Rattle.conflict_learning.specs.Marks.{IsMarked, is_open}
use Rattle.conflict_learning.specs.declared.walk.Walk.{Walk}

-- a noted literal of a lower level
pub record IsLower (steps : List Step) (marks : List Bool) (level : ℕ) (lit : Lit) : Type 0 where
  pub is_false : IsFalse steps lit
  pub below : level_at steps lit < level
  pub marked : IsMarked marks (variable lit)

-- what is true on the way: only assigned variables are marked, as many assignments are open as were
-- counted, and each other marked one has its literal in the clause
pub record IsProgress (trail : Assigned) (marks : List Bool) (clause : List Lit)
    (level unresolved at : ℕ) : Type 0 where
  pub is_trail : IsTrail trail
  pub few : trail.vars < 2 ^ 31
  pub sized : trail.vars < length marks
  pub level_is : level ≡ present_level trail.steps
  pub within : at ≤ length trail.steps
  pub assigned : (var : ℕ) → IsMarked marks var → Any (λ step. variable step.lit ≡ var) trail.steps
  pub counted : unresolved ≡ count_by (is_open marks level) (take at trail.steps)
  pub lower : All (IsLower trail.steps marks level) clause
  pub once : HasNoVariableTwice clause
  pub kept :
      All (λ step. IsMarked marks (variable step.lit) → step.level ≢ level
      → Contains clause (negation step.lit)) trail.steps

-- a walk on its way
abbrev pub IsUnderWay : Assigned → Walk → Type 0
IsUnderWay trail walk =
    IsProgress trail walk.marks.items walk.clause walk.level walk.unresolved walk.at

-- a list that is closed under the clauses, has `given` and has the literals of the assignments that
-- pass
pub record IsKnowing (clauses : List (List Lit)) (given : List Lit) (passes : Step → Bool)
    (steps : List Step) (known : List Lit) : Type 0 where
  pub closed : IsClosed clauses known
  pub has_given : HasAll known given
  pub has_passing : All (λ step. IsTrue (passes step) → Contains known step.lit) steps

-- each such list has the literal
abbrev pub Gives : List (List Lit) → List Lit → (Step → Bool) → List Step → Lit → Type 0
Gives clauses given passes steps lit =
    (known : List Lit) → IsKnowing clauses given passes steps known → Contains known lit

-- where all literals of the clause so far are false, and `more` are true, propagation gives the
-- literal
abbrev pub GivenBy : List (List Lit) → Assigned → Walk → List Lit → Lit → Type 0
GivenBy clauses trail walk more lit =
    Gives clauses (more ++ negations walk.clause) (is_open walk.marks.items walk.level)
    (take walk.at trail.steps) lit

-- the literals of the clause so far are of clauses of the store
pub record AreStanding (clauses : List (List Lit)) (steps : List Step) (marks : List Bool)
    (clause : List Lit) : Type 0 where
  pub lower : All (StandsIn clauses) clause
  pub marked :
      All (λ step. IsMarked marks (variable step.lit) → StandsIn clauses (negation step.lit)) steps

-- so for a walk
abbrev pub AllStand : List (List Lit) → Assigned → Walk → Type 0
AllStand clauses trail walk = AreStanding clauses trail.steps walk.marks.items walk.clause

-- the walk begins behind the whole trail
pub record Begins (trail : Assigned) (walk : Walk) : Type 0 where
  pub under_way : IsUnderWay trail walk
  pub at : walk.at ≡ length trail.steps
  pub stands : (clauses : List (List Lit)) → AllStand clauses trail walk

-- a literal that may be noted where it is false: it is false by the assignments that are not passed
pub record IsNotable (trail : Assigned) (at : ℕ) (lit : Lit) : Type 0 where
  pub over : IsOver trail.vars lit
  pub before : IsFalse trail.steps lit → IsFalse (take at trail.steps) lit

-- marks, open assignments and literals only came
pub record IsLater (old new : Walk) : Type 0 where
  pub at : new.at ≡ old.at
  pub level : new.level ≡ old.level
  pub unresolved : old.unresolved ≤ new.unresolved
  pub marks : (var : ℕ) → IsMarked old.marks.items var → IsMarked new.marks.items var
  pub clause : HasAll new.clause old.clause

-- a literal is marked, or of level 0
abbrev pub IsNoted : List Step → Walk → Lit → Type 0
IsNoted steps walk lit = level_at steps lit ≢ 0 → IsMarked walk.marks.items (variable lit)

-- a literal was noted
pub record Notes (trail : Assigned) (old new : Walk) (lit : Lit) : Type 0 where
  pub under_way : IsUnderWay trail new
  pub later : IsLater old new
  pub noted : IsNoted trail.steps new lit
  pub stands : (clauses : List (List Lit)) → StandsIn clauses lit → AllStand clauses trail old
      → AllStand clauses trail new

-- the false literals were noted
pub record NotesAll (trail : Assigned) (old new : Walk) (lits : List Lit) : Type 0 where
  pub under_way : IsUnderWay trail new
  pub later : IsLater old new
  pub noted : All (λ lit. IsFalse trail.steps lit → IsNoted trail.steps new lit) lits
  pub stands : (clauses : List (List Lit)) → All (StandsIn clauses) lits
      → AllStand clauses trail old → AllStand clauses trail new

-- the last open assignment was passed
pub record GoesBack (trail : Assigned) (old new : Walk) (step : Step) : Type 0 where
  pub under_way : IsUnderWay trail new
  pub less : new.at < old.at
  pub there : slice_get trail.steps new.at ≡ Some step
  pub level : step.level ≡ new.level
  pub marked : IsMarked new.marks.items (variable step.lit)
  pub stands : (clauses : List (List Lit)) → AllStand clauses trail old → AllStand clauses trail new
  pub given : (clauses : List (List Lit)) (lit : Lit) → GivenBy clauses trail old [] lit
      → GivenBy clauses trail new (step.lit ∷ []) lit

-- one assignment of the present level is left, and its false literal is the answer
pub record ResolvesTo (clauses : List (List Lit)) (trail : Assigned) (old new : Walk) (lit : Lit) :
    Type 0 where
  pub under_way : IsUnderWay trail new
  pub none : new.unresolved ≡ 0
  pub step : Step
  pub there : slice_get trail.steps new.at ≡ Some step
  pub is : lit ≡ negation step.lit
  pub level : step.level ≡ new.level
  pub marked : IsMarked new.marks.items (variable step.lit)
  pub stands : AllStand clauses trail old → AllStand clauses trail new
  pub given : (given : Lit) → GivenBy clauses trail old [] given
      → GivenBy clauses trail new (step.lit ∷ []) given

-- a literal of a lower level that may stand in a learned clause
pub record IsLearnable (clauses : List (List Lit)) (steps : List Step) (lit : Lit) : Type 0 where
  pub stands : StandsIn clauses lit
  pub is_false : IsFalse steps lit
  pub below : level_at steps lit < present_level steps

-- literals of lower levels and one of the present level are a clause to be learned
pub record IsDerived (clauses : List (List Lit)) (trail : Assigned) (lower : List Lit) (lit : Lit) :
    Type 0 where
  pub is_trail : IsTrail trail
  pub refuted : Refutes clauses (negations (lower ++ lit ∷ []))
  pub learnable : All (IsLearnable clauses trail.steps) lower
  pub once : HasNoVariableTwice lower
  pub stands : StandsIn clauses lit
  pub is_false : IsFalse trail.steps lit
  pub present : level_of trail.steps (variable lit) ≡ Some (present_level trail.steps)
