-- What contracts see of a search's state, and what is true of its parts.
use Rattle.std.specs.Prelude.{◌≡◌, ◌+◌, ℕ, Bool, false, None, List, []}
use Rattle.clause_store.specs.declared.literal.Lit.{Lit}
use Rattle.clause_store.specs.Clause.{AreOver}
use Rattle.clause_store.specs.Trail.{Assigned, IsTrail, IsTrailOf, present_level, up_to}
use Rattle.clause_store.specs.Trail.{with_last}
use Rattle.propagator.specs.Watched.{Watched, IsReady}

-- the clauses, the assignments, and whether memory lacked while a clause was added
pub record Searched : Type 0 where
  pub clauses : List (List Lit)
  pub trail : Assigned
  pub dead : Bool

-- so many variables and these clauses, with nothing assigned
abbrev pub opened : ℕ → List (List Lit) → Searched
opened vars clauses =
    record { clauses = clauses; trail = record { vars = vars; steps = [] }; dead = false }

-- a literal was decided, which opened a level
abbrev pub decided : Searched → Lit → Searched
decided state lit =
    record state {
      trail = with_last state.trail lit None (present_level state.trail.steps + 1);
    }

-- the assignments of higher levels are undone
abbrev pub gone_back : Searched → ℕ → Searched
gone_back state level =
    record state { trail = record state.trail { steps = up_to level state.trail.steps } }

-- the trail is one of the clauses, which are over its variables, and unless the state is dead all
-- is ready for propagation. No public clause cites this record
pub record IsKept (clauses : List (List Lit)) (trail : Assigned) (watches : Watched) (dead : Bool) :
    Type 0 where
  pub is_trail : IsTrail trail
  pub of_store : IsTrailOf trail.steps clauses
  pub over : AreOver trail.vars clauses
  pub ready : dead ≡ false → IsReady clauses trail watches
