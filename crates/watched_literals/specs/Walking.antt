-- Walks along the chain of a literal that became false. No public clause cites this module.
use Rattle.std.specs.Prelude.{◌≡◌, ◌≤◌, ◌<◌, ◌+◌, ◌/◌, ◌⊎◌, ℕ, Bool, true, false, List}
use Rattle.std.specs.Prelude.{length, get_or, set, map, slice_get, Some, All}
use Rattle.clause_store.specs.declared.literal.Lit.{Lit}
use Rattle.clause_store.specs.declared.literal.ClauseRef.{ClauseRef}
use Rattle.clause_store.specs.declared.literal.Value.TheVariants.{No}
use Rattle.clause_store.specs.declared.step.Step.{Step}
use Rattle.clause_store.specs.Clause.{negation, IsOver, AreOver}
use Rattle.clause_store.specs.Trail.{Assigned, IsTrail, IsTrailOf, value_of}
use Rattle.clause_store.specs.Standing.{Followed, IsConflict, as_followed}
use Rattle.propagator.specs.Fixpoint.{IsQuietOn}
use Rattle.propagator.specs.Watched.{Attached, AreNamed}
use Rattle.watched_literals.specs.declared.tables.Tables.{Tables}
use Rattle.watched_literals.specs.declared.cursor.Cursor.{Cursor}
use Rattle.watched_literals.specs.declared.visit.Visit.{Visit}
use Rattle.watched_literals.specs.declared.visit.Visit.TheVariants.{Stays, Moves, Implies}
use Rattle.watched_literals.specs.declared.visit.Visit.TheVariants.{IsFalse as IsFalseClause}
use Rattle.watched_literals.specs.Chains.{none, lit_of, nodes_left, IsWalk}
use Rattle.watched_literals.specs.Visits.{IsVisited, ForcesOther}
use Rattle.watched_literals.specs.Watching.{AreNone, AreOthersFalse, AreSettled, AreWatching}
use Rattle.watched_literals.specs.Watching.{HoldsForGood, IsDone, IsPair}
use Rattle.watched_literals.specs.Watching.{IsSettled, IsTrueBy, partner_of}

-- the attached clauses are of the store and are watched; the chains of the first `next` assignments
-- of the trail were walked
pub record IsRunning (clauses : List (List Lit)) (entries : List Attached) (trail : Assigned)
    (tables : Tables) (next : ℕ) : Type 0 where
  pub named : AreNamed clauses entries
  pub over : AreOver trail.vars clauses
  pub of_store : IsTrailOf trail.steps clauses
  pub is_trail : IsTrail trail
  pub watching : AreWatching trail.vars entries tables (map as_followed trail.steps) next

-- a walk along the chain of the literal that the assignment at a place made false
pub record IsWalking (clauses : List (List Lit)) (entries : List Attached) (trail : Assigned)
    (tables : Tables) (cursor : Cursor) : Type 0 where
  pub running : IsRunning clauses entries trail tables cursor.place
  pub within : cursor.place < length trail.steps
  pub fell :
      (d : Followed)
      → get_or (map as_followed trail.steps) cursor.place d
      ≡ record { lit = negation cursor.lit; level = cursor.level }
  pub walk :
      IsWalk (IsDone tables (map as_followed trail.steps) cursor.level) tables.chains.nodes.items
      tables.chains.heads.items cursor.lit.0 cursor.last cursor.at

-- the clause of a node and its two watched literals, of which one is false
pub record IsSeat (clauses : List (List Lit)) (entries : List Attached) (trail : Assigned)
    (tables : Tables) (lit : Lit) (at : ℕ) : Type 0 where
  pub node : at < length tables.chains.nodes.items
  pub partner : partner_of at < length tables.chains.nodes.items
  pub row : at / 2 < length entries
  pub saved : at / 2 < length tables.saved.items
  pub waits : at / 2 < length tables.pending.waits
  pub own : lit_of tables.chains.nodes.items at ≡ lit
  pub is_trail : IsTrail trail
  pub is_false : value_of trail.steps lit ≡ No
  pub other_over : IsOver trail.vars (lit_of tables.chains.nodes.items (partner_of at))
  pub pair :
      (d : Attached)
      → IsPair (get_or entries (at / 2) d).lits lit
      (lit_of tables.chains.nodes.items (partner_of at))
  pub named :
      (d : Attached)
      → slice_get clauses (get_or entries (at / 2) d).at.0 ≡ Some (get_or entries (at / 2) d).lits
  pub lits_over : (d : Attached) → All (IsOver trail.vars) (get_or entries (at / 2) d).lits
  pub binary :
      (d : Attached) → get_or tables.saved.items (at / 2) 0 ≡ none
      → AreOthersFalse (map as_followed trail.steps) (get_or entries (at / 2) d).lits lit
      (lit_of tables.chains.nodes.items (partner_of at))

-- what becomes of the clause of a node
abbrev pub IsSeen : List Attached → Assigned → Tables → ℕ → ℕ → Visit → Type 0
IsSeen entries trail tables level at Stays =
    IsTrueBy level (map as_followed trail.steps)
    (lit_of tables.chains.nodes.items (partner_of at))
IsSeen entries trail tables level at (Moves to place) =
    (d : Attached)
    → IsVisited trail.steps (get_or entries (at / 2) d).lits
    (lit_of tables.chains.nodes.items (partner_of at)) (Moves to place)
IsSeen entries trail tables level at Implies =
    (d : Attached)
    → IsVisited trail.steps (get_or entries (at / 2) d).lits
    (lit_of tables.chains.nodes.items (partner_of at)) Implies
IsSeen entries trail tables level at IsFalseClause =
    (d : Attached)
    → IsVisited trail.steps (get_or entries (at / 2) d).lits
    (lit_of tables.chains.nodes.items (partner_of at)) IsFalseClause

-- all literals of the clause of a node but the other watched one are false, and it isn't
pub record IsForced (entries : List Attached) (steps : List Step) (tables : Tables) (at : ℕ) :
    Type 0 where
  pub forces :
      (d : Attached)
      → ForcesOther steps (lit_of tables.chains.nodes.items (partner_of at))
      (get_or entries (at / 2) d).lits

-- the other watched literal of the clause of a node is true at a level that isn't higher, or the
-- clause became pending
pub record IsKept (trail : Assigned) (old new : Tables) (level at : ℕ) : Type 0 where
  pub chains : new.chains ≡ old.chains
  pub saved : new.saved ≡ old.saved
  pub waits :
      ((new.pending.waits ≡ old.pending.waits)
      × IsTrueBy level (map as_followed trail.steps)
      (lit_of old.chains.nodes.items (partner_of at)))
      ⊎ (new.pending.waits ≡ set old.pending.waits (at / 2) true)

-- a walk went past a node and has fewer before it
pub record HasPassed (clauses : List (List Lit)) (entries : List Attached) (trail : Assigned)
    (old new : Tables) (before after : Cursor) : Type 0 where
  pub walking : IsWalking clauses entries trail new after
  pub same_place : after.place ≡ before.place
  pub falls :
      nodes_left (length new.chains.nodes.items) new.chains.nodes.items after.at
      < nodes_left (length old.chains.nodes.items) old.chains.nodes.items before.at

-- the clause of the node of a walk is false
pub record HasFailed (clauses : List (List Lit)) (entries : List Attached) (trail : Assigned)
    (tables : Tables) (cursor : Cursor) : Type 0 where
  pub running : IsRunning clauses entries trail tables cursor.place
  pub row : cursor.at / 2 < length entries
  pub conflict :
      (d : Attached) → IsConflict clauses trail.steps (get_or entries (cursor.at / 2) d).at

-- the pending clauses are neither false nor units
abbrev pub ArePendingQuiet : List Step → List Attached → List Bool → Type 0
ArePendingQuiet steps entries waits =
    (row : ℕ) (d : Attached) → row < length entries → get_or waits row false ≡ true
    → IsQuietOn steps (get_or entries row d).lits

-- the first pending clauses are neither false nor units
abbrev pub AreFirstQuiet : List Step → List Attached → List ℕ → ℕ → Type 0
AreFirstQuiet steps entries stack count =
    (k : ℕ) (d : Attached) → k < count → IsQuietOn steps (get_or entries (get_or stack k 0) d).lits

-- the clause of that number is neither false nor a unit
pub record IsQuietAt (clauses : List (List Lit)) (steps : List Step) (at : ClauseRef) :
    Type 0 where
  pub clause : List Lit
  pub named : slice_get clauses at.0 ≡ Some clause
  pub quiet : IsQuietOn steps clause

-- where a literal is false, another is true at a level that isn't higher
abbrev pub SettlesAll : List Followed → Lit → Lit → Type 0
SettlesAll known lit other = (next : ℕ) → IsSettled known next lit other

-- so for both watched literals of a clause, of which a literal is true for good if there are none
pub record IsSettledRow (known : List Followed) (lits : List Lit) (one two : Lit) : Type 0 where
  pub both : (next : ℕ) → AreSettled known next one two
  pub good : AreNone one two → HoldsForGood known lits

-- the pending clause at a place of the stack was looked at, and the next look is at a place
pub record HasLooked (entries : List Attached) (steps : List Step) (old new : List ℕ)
    (at next : ℕ) : Type 0 where
  pub quiet :
      AreFirstQuiet steps entries old at
      → ((d : Attached) → IsQuietOn steps (get_or entries (get_or old at 0) d).lits)
      → AreFirstQuiet steps entries new next
  pub falls : length new + at + 1 ≤ length old + next
