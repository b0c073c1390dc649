-- What the cells of a core hold while it is made. No public clause cites this module.
use Rattle.std.specs.Prelude.{◌≡◌, ◌≢◌, ◌<◌, ◌≤◌, ◌+◌, ◌-◌, ◌++◌, ◌⊎◌, ◌==◌, ℕ, Bool, List, [], ◌∷◌}
use Rattle.std.specs.Prelude.{length, replicate, slice_get, slice_set, slice_index_or, All, Any}
use Rattle.std.specs.Prelude.{Contains, None, Some}
use Rattle.clause_store.specs.declared.literal.Lit.{Lit}
use Rattle.clause_store.specs.declared.step.Step.{Step}
use Rattle.clause_store.specs.Clause.{variable, negation}
use Rattle.clause_store.specs.Entailment.{InClosure, IsClosed}
use Rattle.clause_store.specs.Trail.{Assigned, IsTrail, place_of}
use Rattle.conflict_learning.specs.Analysis.{level_at}
use Rattle.conflict_learning.specs.AssumptionCore.{IsDecision}

-- what stands in a cell without a literal
abbrev pub blank : Lit
blank = record { 0 = 0 }

-- whether there is no literal
abbrev pub is_blank : Lit → Bool
is_blank lit = lit.0 == 0

-- what stands in a cell of a core: there are blanks past the end
abbrev pub cell : List Lit → ℕ → Lit
cell core at = slice_index_or core at blank

-- a cell has a literal
abbrev pub IsFilled : List Lit → ℕ → Type 0
IsFilled core at = cell core at ≢ blank

-- a list has the literals of all cells behind the failed literal
abbrev pub HasFilled : List Lit → List Lit → Type 0
HasFilled known core = (at : ℕ) → 1 ≤ at → IsFilled core at → Contains known (cell core at)

-- the cells stand for the assignments from `last` back: each is blank or has the literal of its
-- assignment, and an assignment without a cell is of level 0
pub record AreCells (steps : List Step) (last : ℕ) (core : List Lit) : Type 0 where
  pub some : 1 ≤ length core
  pub fits : length core ≤ last + 2
  pub holds : (at : ℕ) (step : Step) → 1 ≤ at → slice_get steps (last + 1 - at) ≡ Some step
      → IsFilled core at → cell core at ≡ step.lit
  pub ground : (place : ℕ) (step : Step) → place + length core ≤ last + 1
      → slice_get steps place ≡ Some step → step.level ≡ 0

-- decisions stand behind the failed literal and give its negation: none at level 0
pub record AddsDecisions (clauses : List (List Lit)) (steps : List Step) (failed : Lit)
    (core : List Lit) : Type 0 where
  pub decisions : List Lit
  pub is : core ≡ failed ∷ decisions
  pub decided : All (IsDecision steps) decisions
  pub gives : InClosure clauses decisions (negation failed)
  pub alone : level_at steps failed ≡ 0 → decisions ≡ []

-- a blank was added for each assignment from `last` back to one at `low`, and all earlier ones are
-- of level 0
pub record AddsBlanks (trail : Assigned) (last : ℕ) (old new : List Lit) : Type 0 where
  pub is_trail : IsTrail trail
  pub low : ℕ
  pub order : low ≤ last + 1
  pub is : new ≡ old ++ replicate (last + 1 - low) blank
  pub ground : (place : ℕ) (step : Step) → place < low → slice_get trail.steps place ≡ Some step
      → step.level ≡ 0
  pub above : (step : Step) → slice_get trail.steps last ≡ Some step → step.level ≡ 0
      → low ≡ last + 1

-- a variable of the trail is not assigned later than at `last`
pub record IsMarkable (trail : Assigned) (last : ℕ) (lit : Lit) : Type 0 where
  pub over : variable lit ≤ trail.vars
  pub before : (place : ℕ) → place_of trail.steps (variable lit) ≡ Some place → place ≤ last

-- the literal of the assignment of a variable was put into its cell, if it has one
pub record MarksCell (steps : List Step) (last : ℕ) (lit : Lit) (old new : List Lit) : Type 0 where
  pub unset : place_of steps (variable lit) ≡ None → new ≡ old
  pub assigned : (place : ℕ) (step : Step) → place_of steps (variable lit) ≡ Some place
      → slice_get steps place ≡ Some step → new ≡ slice_set old (last + 1 - place) step.lit

-- a cell has the literal of the assignment of a variable
pub record IsMarkOf (steps : List Step) (last : ℕ) (core : List Lit) (at : ℕ) (lit : Lit) :
    Type 0 where
  pub place : ℕ
  pub step : Step
  pub found : place_of steps (variable lit) ≡ Some place
  pub there : slice_get steps place ≡ Some step
  pub at_is : at ≡ last + 1 - place
  pub holds : cell core at ≡ step.lit

-- the cell of the assignment of a variable, if it is one of the first `size`, has its literal
abbrev pub IsMarkedIn : List Step → ℕ → ℕ → List Lit → Lit → Type 0
IsMarkedIn steps last size core lit =
    (place : ℕ) (step : Step) → place_of steps (variable lit) ≡ Some place
    → slice_get steps place ≡ Some step → last + 1 < place + size
    → cell core (last + 1 - place) ≡ step.lit

-- the variables of all literals were marked, and other cells stayed
pub record MarksAll (steps : List Step) (last : ℕ) (lits old new : List Lit) : Type 0 where
  pub sized : length new ≡ length old
  pub stays : (at : ℕ) → (cell new at ≡ cell old at) ⊎ Any (IsMarkOf steps last new at) lits
  pub marked : All (IsMarkedIn steps last (length old) new) lits

-- the literal of a cell, unless it is a decision, was replaced by others behind it that give it
pub record Explains (clauses : List (List Lit)) (steps : List Step) (last at : ℕ)
    (old new : List Lit) : Type 0 where
  pub sized : length new ≡ length old
  pub cells : AreCells steps last new
  pub before : (earlier : ℕ) → earlier < at → cell new earlier ≡ cell old earlier
  pub decided : (step : Step) → slice_get steps (last + 1 - at) ≡ Some step → IsFilled new at
      → step.reason ≡ None
  pub gives : (known : List Lit) → IsClosed clauses known → HasFilled known new
      → HasFilled known old

-- all literals behind the failed one were replaced by decisions that give them
pub record ExplainsAll (clauses : List (List Lit)) (steps : List Step) (last : ℕ)
    (old new : List Lit) : Type 0 where
  pub sized : length new ≡ length old
  pub cells : AreCells steps last new
  pub first : cell new 0 ≡ cell old 0
  pub decided : (at : ℕ) (step : Step) → 1 ≤ at → slice_get steps (last + 1 - at) ≡ Some step
      → IsFilled new at → step.reason ≡ None
  pub gives : (known : List Lit) → IsClosed clauses known → HasFilled known new
      → HasFilled known old
