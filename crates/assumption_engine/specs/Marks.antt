-- Which variables are marked as standing unnegated in clauses. No public clause cites this module.
use Rattle.std.specs.Prelude.{◌≡◌, ◌⊎◌, ℕ, Bool, List, false, Contains, IsTrue, slice_index_or}
use Rattle.clause_store.specs.declared.literal.Lit.{Lit}
use Rattle.conflict_learning.specs.Analysis.{StandsIn}
use Rattle.search_state.specs.State.{Searched}
use Rattle.assumption_engine.specs.Sided.{positive}

-- a variable is marked
abbrev pub IsMarked : List Bool → ℕ → Type 0
IsMarked marks var = IsTrue (slice_index_or marks var false)

-- each marked variable stands unnegated in one of the clauses
pub record AreMarkedIn (clauses : List (List Lit)) (marks : List Bool) : Type 0 where
  pub stands : (var : ℕ) → IsMarked marks var → StandsIn clauses (positive var)

-- so it is in a state, unless memory lacked while a clause was added
abbrev pub AreMarks : List Bool → Searched → Type 0
AreMarks marks state = state.dead ≡ false → AreMarkedIn state.clauses marks

-- at most one more variable was marked
pub record MarksOne (var : ℕ) (old new : List Bool) : Type 0 where
  pub from : (other : ℕ) → IsMarked new other → IsMarked old other ⊎ (other ≡ var)

-- only variables that stand unnegated in a clause were marked
pub record MarksOnly (clause : List Lit) (old new : List Bool) : Type 0 where
  pub from : (var : ℕ) → IsMarked new var → IsMarked old var ⊎ Contains clause (positive var)
