-- What a turn of a search has to do, and when each task comes.
use Rattle.std.specs.Prelude.{◌≡◌, ◌⊎◌, List, Contains}
use Rattle.clause_store.specs.declared.literal.Lit.{Lit}
use Rattle.clause_store.specs.declared.literal.Value.TheVariants.{Unset}
use Rattle.clause_store.specs.declared.step.Step.{Step}
use Rattle.clause_store.specs.Clause.{IsOver}
use Rattle.clause_store.specs.Standing.{IsConflict, IsFalse}
use Rattle.clause_store.specs.Trail.{Assigned, IsTotal, value_of}
use Rattle.propagator.specs.Fixpoint.{IsFixpoint}
use Rattle.search_state.specs.Assumed.{AreTrue}
use Rattle.search_state.specs.State.{Searched}
use Rattle.assumption_engine.specs.Theory.{IsGiven, Meaning}
use Rattle.assumption_engine.specs.Sided.{IsFree}
use Rattle.assumption_engine.specs.declared.task.Task.{Task}
use Rattle.assumption_engine.specs.declared.task.Task.TheVariants.{Learn, Take, Refuse, Decide}
use Rattle.assumption_engine.specs.declared.task.Task.TheVariants.{Check}

-- the clauses have nothing to say, and the theory gave a clause
pub record MayTake (meaning : Meaning) (state : Searched) (clause : List Lit) : Type 0 where
  pub fixpoint : IsFixpoint state.clauses state.trail.steps
  pub given : IsGiven meaning state.trail clause

-- an assumed literal is false
pub record MustRefuse (assumed : List Lit) (steps : List Step) (lit : Lit) : Type 0 where
  pub among : Contains assumed lit
  pub is_false : IsFalse steps lit

-- all assumed literals are true, and a literal may be true unassumed
pub record IsNext (clauses : List (List Lit)) (assumed : List Lit) (steps : List Step) (lit : Lit) :
    Type 0 where
  pub all_true : AreTrue steps assumed
  pub free : IsFree clauses lit

-- a literal is unset, and is an assumed one or comes after them
pub record MayDecide (clauses : List (List Lit)) (assumed : List Lit) (trail : Assigned)
    (lit : Lit) : Type 0 where
  pub over : IsOver trail.vars lit
  pub unset : value_of trail.steps lit ≡ Unset
  pub turn : Contains assumed lit ⊎ IsNext clauses assumed trail.steps lit

-- all is assigned, the assumed literals to true, and the clauses have nothing to say
pub record MayCheck (clauses : List (List Lit)) (assumed : List Lit) (trail : Assigned) :
    Type 0 where
  pub fixpoint : IsFixpoint clauses trail.steps
  pub all_true : AreTrue trail.steps assumed
  pub total : IsTotal trail

-- an assumed literal is made true if it is unset, and refused if it is false
abbrev pub IsAssuming : List Step → Lit → Task → Type 0
IsAssuming steps lit (Learn at) = ⊥
IsAssuming steps lit Take = ⊥
IsAssuming steps lit (Refuse other) = (other ≡ lit) × IsFalse steps lit
IsAssuming steps lit (Decide other) = (other ≡ lit) × (value_of steps lit ≡ Unset)
IsAssuming steps lit Check = ⊥

-- when each task comes where the clauses and the theory have nothing to say
abbrev pub IsChoice : List (List Lit) → List Lit → Assigned → Task → Type 0
IsChoice clauses assumed trail (Learn at) = ⊥
IsChoice clauses assumed trail Take = ⊥
IsChoice clauses assumed trail (Refuse lit) = MustRefuse assumed trail.steps lit
IsChoice clauses assumed trail (Decide lit) = MayDecide clauses assumed trail lit
IsChoice clauses assumed trail Check = MayCheck clauses assumed trail

-- when each task comes
abbrev pub IsTask : Meaning → List Lit → Searched → List Lit → Task → Type 0
IsTask meaning assumed state given (Learn at) = IsConflict state.clauses state.trail.steps at
IsTask meaning assumed state given Take = MayTake meaning state given
IsTask meaning assumed state given (Refuse lit) = MustRefuse assumed state.trail.steps lit
IsTask meaning assumed state given (Decide lit) =
    MayDecide state.clauses assumed state.trail lit
IsTask meaning assumed state given Check = MayCheck state.clauses assumed state.trail
