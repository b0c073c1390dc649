-- What is known while a clause is minimised, and what its minimisation keeps. No public clause
-- cites this module.
use Rattle.std.specs.Prelude.{◌≡◌, ◌≢◌, ◌<◌, ◌⊎◌, ℕ, Bool, true, List, length, slice_get}
use Rattle.std.specs.Prelude.{slice_set, All, Any, Contains, Some}
use Rattle.clause_store.specs.declared.literal.Lit.{Lit}
use Rattle.clause_store.specs.declared.literal.ClauseRef.{ClauseRef}
use Rattle.clause_store.specs.declared.step.Step.{Step}
use Rattle.clause_store.specs.Clause.{variable, negation, HasAll, HasNoVariableTwice, IsOver}
use Rattle.clause_store.specs.Entailment.{IsClosed, negations}
use Rattle.clause_store.specs.Standing.{IsFalse}
use Rattle.clause_store.specs.Trail.{Assigned, IsTrail, reason_of}
use Rattle.conflict_learning.specs.Analysis.{level_at}
use Rattle.conflict_learning.specs.Marks.{HasNoMark, IsMarked}
use Rattle.conflict_learning.specs.declared.minimisation.Judge.{Judge}

-- a literal is of level 0, or its variable is marked
abbrev pub IsCovered : List Step → List Bool → Lit → Type 0
IsCovered steps marks lit = level_at steps lit ≢ 0 → IsMarked marks (variable lit)

-- the other literals of the reason that made a literal false are covered
pub record IsExplained (clauses : List (List Lit)) (steps : List Step) (marks : List Bool)
    (lit : Lit) : Type 0 where
  pub why : ClauseRef
  pub reason : reason_of steps (variable lit) ≡ Some why
  pub clause : List Lit
  pub named : slice_get clauses why.0 ≡ Some clause
  pub others : All (λ other. other ≢ negation lit → IsCovered steps marks other) clause

-- the false literal of a marked variable is in the clause or explained
pub record IsHeld (clauses : List (List Lit)) (steps : List Step) (clause : List Lit)
    (marks : List Bool) (var : ℕ) : Type 0 where
  pub lit : Lit
  pub same : variable lit ≡ var
  pub is_false : IsFalse steps lit
  pub holds : Contains clause lit ⊎ IsExplained clauses steps marks lit

-- so for all marked variables
abbrev pub AreHeld : List (List Lit) → List Step → List Lit → List Bool → Type 0
AreHeld clauses steps clause marks =
    (var : ℕ) → IsMarked marks var → IsHeld clauses steps clause marks var

-- the variables that are marked are those of literals that were judged
abbrev pub AreListed : List Bool → List Lit → Type 0
AreListed marks judged = (var : ℕ) → IsMarked marks var → Any (λ lit. variable lit ≡ var) judged

-- the tables have a place for each variable, and what is marked was judged
pub record IsReady (trail : Assigned) (judge : Judge) : Type 0 where
  pub is_trail : IsTrail trail
  pub covered_sized : trail.vars < length judge.covered.items
  pub uncovered_sized : trail.vars < length judge.uncovered.items
  pub over : All (IsOver trail.vars) judge.judged
  pub covered_listed : AreListed judge.covered.items judge.judged
  pub uncovered_listed : AreListed judge.uncovered.items judge.judged

-- a literal was marked as covered
pub record MarksCovered (trail : Assigned) (old new : Judge) (lit : Lit) : Type 0 where
  pub ready : IsReady trail new
  pub is : new.covered.items ≡ slice_set old.covered.items (variable lit) true
  pub inside : variable lit < length old.covered.items

-- a literal was marked as not covered
pub record MarksUncovered (trail : Assigned) (old new : Judge) (lit : Lit) : Type 0 where
  pub ready : IsReady trail new
  pub is : new.covered.items ≡ old.covered.items

-- nothing is known yet
pub record Begins (trail : Assigned) (judge : Judge) : Type 0 where
  pub ready : IsReady trail judge
  pub unmarked : HasNoMark judge.covered.items

-- literals were marked as covered
pub record CoversAll (trail : Assigned) (old new : Judge) (lits : List Lit) : Type 0 where
  pub ready : IsReady trail new
  pub only : (var : ℕ) → IsMarked new.covered.items var
      → IsMarked old.covered.items var ⊎ Any (λ lit. variable lit ≡ var) lits
  pub all : All (λ lit. IsMarked new.covered.items (variable lit)) lits

-- the literals of the clause are covered, and no others
pub record CoversOnly (trail : Assigned) (clause : List Lit) (judge : Judge) : Type 0 where
  pub ready : IsReady trail judge
  pub only : AreListed judge.covered.items clause
  pub all : All (λ lit. IsMarked judge.covered.items (variable lit)) clause

-- more literals were covered, each with a reason
pub record Judges (clauses : List (List Lit)) (trail : Assigned) (old new : Judge) : Type 0 where
  pub ready : IsReady trail new
  pub grows : (var : ℕ) → IsMarked old.covered.items var → IsMarked new.covered.items var
  pub held : (clause : List Lit) → AreHeld clauses trail.steps clause old.covered.items
      → AreHeld clauses trail.steps clause new.covered.items

-- a list of literals has only some of another, and each closed list that has the negations of the
-- few has those of all
pub record IsEnough (clauses : List (List Lit)) (many few : List Lit) : Type 0 where
  pub within : HasAll many few
  pub once : HasNoVariableTwice many → HasNoVariableTwice few
  pub gives : (known : List Lit) → IsClosed clauses known → HasAll known (negations few)
      → HasAll known (negations many)
