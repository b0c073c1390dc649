-- What the answers of an engine say, and when it ends for having counted.
use Rattle.std.specs.Prelude.{◌≡◌, ◌≢◌, ◌≤◌, ◌<◌, ◌+◌, ◌⊎◌, ℕ, Bool, List, length, All, Contains, ⊤}
use Rattle.clause_store.specs.declared.literal.Lit.{Lit}
use Rattle.clause_store.specs.Clause.{IsOver, IsTrueIn, Meets}
use Rattle.clause_store.specs.Counted.{Counted}
use Rattle.clause_store.specs.declared.literal.Value.TheVariants.{Unset}
use Rattle.clause_store.specs.Standing.{Followed}
use Rattle.clause_store.specs.Trail.{Assigned, IsTotal, value_of, values_of}
use Rattle.assumption_engine.specs.Theory.{Meaning, IsSpentCheck}
use Rattle.assumption_engine.specs.Engine.{GoesOn, IsModelOf, IsRight}
use Rattle.assumption_engine.specs.Sided.{AreInOrder}
use Rattle.assumption_engine.specs.Progress.{IsNearer}
use Rattle.assumption_engine.specs.declared.answer.Answer.{Answer}
use Rattle.assumption_engine.specs.declared.answer.Answer.TheVariants.{Model, Core, Spent}
use Rattle.assumption_engine.specs.declared.answer.Answer.TheVariants.{SpentInside, Paused}
use Rattle.assumption_engine.specs.declared.answer.Answer.TheVariants.{NoMemory}
use Rattle.assumption_engine.specs.declared.answer.Turn.{Turn}
use Rattle.assumption_engine.specs.declared.answer.Turn.TheVariants.{Going, Ended}
use Rattle.search_state.specs.State.{Searched}

-- all variables are assigned, to a model of the engine that makes the assumed literals true
pub record IsModelOn (meaning : Meaning) (defined : List (List Lit)) (assumed : List Lit)
    (trail : Assigned) : Type 0 where
  pub total : IsTotal trail
  pub model : IsModelOf meaning defined (values_of trail)
  pub true_lits : All (IsTrueIn (values_of trail)) assumed

-- assumed literals that no model of the engine makes all true
pub record IsCoreOf (meaning : Meaning) (defined : List (List Lit)) (assumed core : List Lit) :
    Type 0 where
  pub among : All (Contains assumed) core
  pub unmet :
      (values : List Bool) → IsModelOf meaning defined values → All (IsTrueIn values) core → ⊥

-- a spent check of an assignment that makes the assumed literals true and meets the clauses of the
-- defined selectors
pub record IsSpentInside (meaning : Meaning) (defined : List (List Lit)) (assumed : List Lit)
    (limit : ℕ) (set : List Bool) (units : List (List Lit)) : Type 0 where
  pub values : List Bool
  pub check : IsSpentCheck meaning limit values set units
  pub meets : Meets values defined
  pub true_lits : All (IsTrueIn values) assumed

-- what each answer says
abbrev pub IsAnswer :
    Meaning → List (List Lit) → List Lit → ℕ → Assigned → Answer → Type 0
IsAnswer meaning defined assumed limit trail Model = IsModelOn meaning defined assumed trail
IsAnswer meaning defined assumed limit trail (Core core) = IsCoreOf meaning defined assumed core
IsAnswer meaning defined assumed limit trail Spent = ⊤
IsAnswer meaning defined assumed limit trail (SpentInside set units) =
    IsSpentInside meaning defined assumed limit set units
IsAnswer meaning defined assumed limit trail Paused = ⊤
IsAnswer meaning defined assumed limit trail NoMemory = ⊤

-- fewer were counted than `stop`, and than the limit
pub record IsBelow (stop : ℕ) (after : Counted) : Type 0 where
  pub before_stop : length after.units < stop
  pub limit : length after.units < after.limit

-- as many were counted as `stop`, which is below the limit
pub record IsSliceOver (stop : ℕ) (after : Counted) : Type 0 where
  pub at_stop : length after.units ≡ stop
  pub limit : length after.units < after.limit

-- how many were counted where each answer comes but want of memory
abbrev pub IsCountedRight : ℕ → Counted → Answer → Type 0
IsCountedRight stop after Model = IsBelow stop after
IsCountedRight stop after (Core core) = IsBelow stop after
IsCountedRight stop after Spent = length after.units ≡ after.limit
IsCountedRight stop after (SpentInside set units) = IsBelow stop after
IsCountedRight stop after Paused = IsSliceOver stop after
IsCountedRight stop after NoMemory = ⊥

-- a turn that ended with an answer
pub record HasEnded (meaning : Meaning) (defined : List (List Lit)) (assumed : List Lit)
    (stop : ℕ) (new : Searched) (after : Counted) (answer : Answer) : Type 0 where
  pub says : IsAnswer meaning defined assumed after.limit new.trail answer
  pub counted : IsCountedRight stop after answer

-- a turn after which there is more to do
pub record IsGoing (stop : ℕ) (old new : Searched) (after : Counted) : Type 0 where
  pub nearer : IsNearer old new
  pub below : length after.units < stop

-- what each turn does
abbrev pub IsTurn :
    Meaning → List (List Lit) → List Lit → ℕ → Searched → Searched → Counted → Turn → Type 0
IsTurn meaning defined assumed stop old new after Going = IsGoing stop old new after
IsTurn meaning defined assumed stop old new after (Ended answer) =
    HasEnded meaning defined assumed stop new after answer

-- one more may be counted, and `stop` is within the limit
pub record HasRoom (stop : ℕ) (before : Counted) : Type 0 where
  pub below : length before.units < stop
  pub within : stop ≤ before.limit

-- a turn was taken: all is right after it, the search went on, and it does what it says
pub record HasTurned (one two : Meaning) (followed : List Followed)
    (defined there : List (List Lit))
    (assumed : List Lit) (stop : ℕ) (old new : Searched) (before after : Counted) (turn : Turn) :
    Type 0 where
  pub right : IsRight two followed new there
  pub on : GoesOn one assumed old new before after
  pub does : IsTurn one defined assumed stop old new after turn

-- a turn may begin: all is right, the assumed literals are over the variables and come first, and
-- one more clause may be counted
pub record MayTurn (meaning : Meaning) (followed : List Followed) (state : Searched)
    (defined : List (List Lit)) (assumed : List Lit) (stop : ℕ) (before : Counted) : Type 0 where
  pub right : IsRight meaning followed state defined
  pub over : All (IsOver state.trail.vars) assumed
  pub order : AreInOrder state.clauses assumed state.trail.steps
  pub room : HasRoom stop before

-- the answers that come for having counted
abbrev pub IsStopped : ℕ → Counted → Answer → Type 0
IsStopped stop after Model = ⊥
IsStopped stop after (Core core) = ⊥
IsStopped stop after Spent = length after.units ≡ after.limit
IsStopped stop after (SpentInside set units) = ⊥
IsStopped stop after Paused = IsSliceOver stop after
IsStopped stop after NoMemory = ⊥

-- whether there is more to do after a clause was counted
abbrev pub IsStopping : ℕ → Counted → Turn → Type 0
IsStopping stop after Going = length after.units < stop
IsStopping stop after (Ended answer) = IsStopped stop after answer

-- a literal is assigned, and nothing was done
pub record IsSet (old new : Searched) (lit : Lit) : Type 0 where
  pub set : value_of old.trail.steps lit ≢ Unset
  pub same : new ≡ old

-- a clause came, or its asserting literal is assigned
pub record IsTaken (stop : ℕ) (old new : Searched) (asserting : Lit) (after : Counted) :
    Type 0 where
  pub below : length after.units < stop
  pub taken : (length old.clauses < length new.clauses) ⊎ IsSet old new asserting

-- what came of a clause that was learned
abbrev pub HasTaken : ℕ → Searched → Searched → Lit → Counted → Turn → Type 0
HasTaken stop old new asserting after Going = IsTaken stop old new asserting after
HasTaken stop old new asserting after (Ended answer) = IsStopped stop after answer

-- a core without literals
abbrev pub IsEmptyCore : Meaning → List (List Lit) → Answer → Type 0
IsEmptyCore meaning defined Model = ⊥
IsEmptyCore meaning defined (Core core) =
    (assumed : List Lit) → IsCoreOf meaning defined assumed core
IsEmptyCore meaning defined Spent = ⊥
IsEmptyCore meaning defined (SpentInside set units) = ⊥
IsEmptyCore meaning defined Paused = ⊥
IsEmptyCore meaning defined NoMemory = ⊥

-- what came of a clause that was given: it was put last, or it says that there is no model
abbrev pub HasGiven : Meaning → List (List Lit) → Searched → Searched → Turn → Type 0
HasGiven meaning defined old new Going = length old.clauses < length new.clauses
HasGiven meaning defined old new (Ended answer) = IsEmptyCore meaning defined answer

-- how many clauses may be counted before a call ends: a slice more, within the limit
pub record IsStop (slice : ℕ) (before : Counted) (stop : ℕ) : Type 0 where
  pub room : HasRoom stop before
  pub within : stop ≤ length before.units + slice
  pub exact : stop < before.limit → stop ≡ length before.units + slice
