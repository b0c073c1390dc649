-- Laws of the words of this crate. Each is a clause of a function in src/laws.rt.
use Rattle.std.specs.Prelude.{◌≡◌, ◌≢◌, ◌<◌, ◌≤◌, ◌+◌, ◌++◌, List, [], ◌∷◌, length, take, All}
use Rattle.std.specs.Prelude.{slice_get, Some}
use Rattle.clause_store.specs.declared.literal.Lit.{Lit}
use Rattle.clause_store.specs.declared.literal.ClauseRef.{ClauseRef}
use Rattle.clause_store.specs.declared.literal.Value.TheVariants.{Yes, Unset}
use Rattle.clause_store.specs.declared.step.Step.{Step}
use Rattle.clause_store.specs.Clause.{IsOver, AreOver, Meets}
use Rattle.clause_store.specs.Entailment.{Absorbs, InClosure, Refutes}
use Rattle.clause_store.specs.Trail.{Assigned, IsTrail, IsTrailOf, IsTotal, value_of, values_of}
use Rattle.clause_store.specs.Laws.{IsStill}
use Rattle.clause_store.specs.Standing.{AreFollowed, IsFalse, IsFalseOn, ForcesOn}
use Rattle.propagator.specs.Watched.{Watched, IsAttached, IsReady}
use Rattle.propagator.specs.Fixpoint.{Extends, IsFixpoint}

-- the store, the trail and the watches stay ready when assignments come last
abbrev pub ReadyWithMore : Type 0
ReadyWithMore =
    (clauses : List (List Lit)) (old new : Assigned) (watches : Watched) (added : List Step)
    → IsReady clauses old watches
    → new ≡ record old { steps = old.steps ++ added } → IsTrailOf new.steps clauses
    → IsReady clauses new watches

-- and when a clause is put into the store and attached
abbrev pub ReadyWithClause : Type 0
ReadyWithClause =
    (clauses more : List (List Lit)) (clause : List Lit) (trail : Assigned) (old new : Watched)
    (at : ClauseRef) → IsReady clauses trail old
    → All (IsOver trail.vars) clause → at.0 ≡ length clauses → more ≡ clauses ++ clause ∷ []
    → IsAttached more at old new
    → IsReady more trail new

-- and when a clause of the store is attached once more
abbrev pub ReadyWithAgain : Type 0
ReadyWithAgain =
    (clauses : List (List Lit)) (trail : Assigned) (old new : Watched) (at : ClauseRef)
    → IsReady clauses trail old
    → IsAttached clauses at old new → IsReady clauses trail new

-- where the first clauses of a store are attached and the next one is, that many and one are
abbrev pub ReadyWithNext : Type 0
ReadyWithNext =
    (clauses : List (List Lit)) (trail : Assigned) (old new : Watched) (at : ClauseRef)
    → AreOver trail.vars clauses
    → at.0 < length clauses → IsReady (take at.0 clauses) trail old → IsAttached clauses at old new
    → IsReady (take (at.0 + 1) clauses) trail new

-- and when the trail goes back and the watches with it
abbrev pub ReadyAfterRewind : Type 0
ReadyAfterRewind =
    (clauses : List (List Lit)) (old new : Assigned) (watches rewound : Watched)
    → IsReady clauses old watches
    → new.vars ≡ old.vars → IsTrailOf new.steps clauses
    → rewound ≡ record watches { followed = rewound.followed }
    → AreFollowed new.steps rewound.followed → IsReady clauses new rewound

-- a run of propagation after another is one
abbrev pub ExtendingGoesOn : Type 0
ExtendingGoesOn =
    (first second third : Assigned) → Extends first second → Extends second third
    → Extends first third

-- the clause of a reason: its literal is true and all others are false
pub record HoldsAsReason (clauses : List (List Lit)) (steps : List Step) (step : Step)
    (why : ClauseRef) : Type 0 where
  pub clause : List Lit
  pub named : slice_get clauses why.0 ≡ Some clause
  pub yes : value_of steps step.lit ≡ Yes
  pub others : All (λ other. other ≢ step.lit → IsFalse steps other) clause

-- on a trail of the store the literal of each reason is true and its others are false
abbrev pub ReasonsHold : Type 0
ReasonsHold =
    (trail : Assigned) (clauses : List (List Lit)) → IsTrail trail → IsTrailOf trail.steps clauses
    → All
    (λ step. (why : ClauseRef) → step.reason ≡ Some why
    → HoldsAsReason clauses trail.steps step why) trail.steps

-- what unit propagation draws from literals that are true at a fixpoint is true there
abbrev pub FixpointHasClosure : Type 0
FixpointHasClosure =
    (trail : Assigned) (clauses : List (List Lit)) (lits : List Lit) (lit : Lit) → IsTrail trail
    → IsFixpoint clauses trail.steps
    → All (λ it. value_of trail.steps it ≡ Yes) lits → InClosure clauses lits lit
    → value_of trail.steps lit ≡ Yes

-- it refutes no such literals
abbrev pub FixpointRefutesNone : Type 0
FixpointRefutesNone =
    (trail : Assigned) (clauses : List (List Lit)) (lits : List Lit) → IsTrail trail
    → IsFixpoint clauses trail.steps
    → All (λ it. value_of trail.steps it ≡ Yes) lits → ¬ Refutes clauses lits

-- so a clause that is a unit at a fixpoint of other clauses isn't absorbed by them
abbrev pub FixpointAbsorbsNoUnit : Type 0
FixpointAbsorbsNoUnit =
    (trail : Assigned) (clauses : List (List Lit)) (clause : List Lit) (lit : Lit) → IsTrail trail
    → IsFixpoint clauses trail.steps
    → ForcesOn trail.steps clause lit → ¬ Absorbs clauses clause

-- the assignment of a total trail at a fixpoint meets the clauses
abbrev pub TotalFixpointMeets : Type 0
TotalFixpointMeets =
    (trail : Assigned) (clauses : List (List Lit)) → IsTotal trail → AreOver trail.vars clauses
    → IsFixpoint clauses trail.steps → Meets (values_of trail) clauses

-- nor is a clause that has a literal and is false there
abbrev pub FixpointAbsorbsNoFalse : Type 0
FixpointAbsorbsNoFalse =
    (trail : Assigned) (clauses : List (List Lit)) (clause : List Lit) → IsTrail trail
    → IsFixpoint clauses trail.steps
    → 1 ≤ length clause → IsFalseOn trail.steps clause → ¬ Absorbs clauses clause

-- propagation leaves a literal that has a value this value, and its variable the level
abbrev pub PropagationKeepsValues : Type 0
PropagationKeepsValues =
    (old new : Assigned) (lit : Lit) → Extends old new → value_of old.steps lit ≢ Unset
    → IsStill old.steps new.steps lit
