-- What contracts see of watches: the clauses that were attached, and the assignments that are
-- followed.
use Rattle.std.specs.Prelude.{◌≡◌, ◌<◌, ℕ, List, [], ◌∷◌, ◌++◌, length, slice_get, All, Any, Some}
use Rattle.clause_store.specs.declared.literal.Lit.{Lit}
use Rattle.clause_store.specs.declared.literal.ClauseRef.{ClauseRef}
use Rattle.clause_store.specs.declared.step.Step.{Step}
use Rattle.clause_store.specs.Clause.{AreOver}
use Rattle.clause_store.specs.Trail.{Assigned, IsTrailOf}
use Rattle.clause_store.specs.Standing.{Followed, AreFollowed}
use Rattle.propagator.specs.Fixpoint.{IsQuietOn}

-- a clause of a store by its number, with the literals that it had
pub record Attached : Type 0 where
  pub at : ClauseRef
  pub lits : List Lit

-- the watches over the variables 1 to `vars`
pub record Watched : Type 0 where
  pub vars : ℕ
  pub clauses : List Attached
  pub followed : List Followed

-- each attached clause is a clause of the store with its literals
abbrev pub AreNamed : List (List Lit) → List Attached → Type 0
AreNamed clauses attached = All (λ it. slice_get clauses it.at.0 ≡ Some it.lits) attached

-- the attached clauses are just the clauses of the store: none is left out
pub record AreAttached (attached : List Attached) (clauses : List (List Lit)) : Type 0 where
  pub named : AreNamed clauses attached
  pub complete : (at : ℕ) → at < length clauses → Any (λ it. it.at.0 ≡ at) attached

-- the clause of that number was put last, with its literals, and nothing else changed
pub record IsAttached (clauses : List (List Lit)) (at : ClauseRef) (old new : Watched) :
    Type 0 where
  pub clause : List Lit
  pub named : slice_get clauses at.0 ≡ Some clause
  pub last : new ≡ record old { clauses = old.clauses ++ record { at = at; lits = clause } ∷ [] }

-- each attached clause is neither false nor a unit
abbrev pub AreQuietOn : List Step → List Attached → Type 0
AreQuietOn steps attached = All (λ it. IsQuietOn steps it.lits) attached

-- what propagation asks of a store, a trail and watches, and leaves: the watches are just of the
-- store's clauses and over the trail's variables, follow a front of the trail, and the trail is of
-- the store
pub record IsReady (clauses : List (List Lit)) (trail : Assigned) (watches : Watched) : Type 0 where
  pub attached : AreAttached watches.clauses clauses
  pub same_vars : watches.vars ≡ trail.vars
  pub over : AreOver trail.vars clauses
  pub followed : AreFollowed trail.steps watches.followed
  pub of_store : IsTrailOf trail.steps clauses
