-- What an engine keeps on its way.
use Rattle.std.specs.Prelude.{◌≡◌, ◌≢◌, ◌≤◌, ◌<◌, ◌++◌, ℕ, Bool, false, List, slice_get}
use Rattle.std.specs.Prelude.{All, Contains, Some}
use Rattle.clause_store.specs.declared.literal.Lit.{Lit}
use Rattle.clause_store.specs.declared.literal.ClauseRef.{ClauseRef}
use Rattle.clause_store.specs.declared.literal.Value.TheVariants.{Unset}
use Rattle.clause_store.specs.declared.step.Step.{Step}
use Rattle.clause_store.specs.Clause.{HasNoVariableTwice, IsOver, Meets}
use Rattle.clause_store.specs.Counted.{Counted}
use Rattle.clause_store.specs.Entailment.{AreUnits, Refutes, negations}
use Rattle.clause_store.specs.Laws.{AreMoreClauses}
use Rattle.clause_store.specs.Standing.{AreFollowed, Followed, IsFalse}
use Rattle.clause_store.specs.Trail.{Assigned, IsTrail, IsTrailOf, present_level, up_to, value_of}
use Rattle.conflict_learning.specs.Analysis.{StandsIn, greatest_level}
use Rattle.conflict_learning.specs.declared.learned.Learned.{Learned}
use Rattle.propagator.specs.Fixpoint.{Extends}
use Rattle.assumption_engine.specs.Theory.{Meaning}
use Rattle.clause_store.specs.History.{Added, added_clauses, counted_clauses, IsHistoryOf}
use Rattle.search_state.specs.State.{Searched}
use Rattle.assumption_engine.specs.Sided.{AreAsAssumed, AreInOrder, AreOpposed}
use Rattle.assumption_engine.specs.Sided.{IsOneSided}

-- a model of an engine: one of the theory that meets the clause of each defined selector
pub record IsModelOf (meaning : Meaning) (defined : List (List Lit)) (values : List Bool) :
    Type 0 where
  pub model : meaning.models values
  pub meets : Meets values defined

-- what is true of an engine between its calls, until memory runs out
pub record IsRight (meaning : Meaning) (followed : List Followed) (state : Searched)
    (defined : List (List Lit)) : Type 0 where
  pub alive : state.dead ≡ false
  pub holds : (values : List Bool) → IsModelOf meaning defined values → Meets values state.clauses
  pub needed : AreMoreClauses meaning.needs state.clauses
  pub kept : AreMoreClauses defined state.clauses
  pub range : meaning.greatest ≤ state.trail.vars
  pub follows : AreFollowed state.trail.steps followed

-- a search went on: clauses came that were counted or may be given, none of which those before
-- absorb; one-sided variables stay so, and stand only as assumed in what was counted; and the
-- assumed literals still come first
pub record GoesOn (meaning : Meaning) (assumed : List Lit) (old new : Searched)
    (before after : Counted) : Type 0 where
  pub vars : new.trail.vars ≡ old.trail.vars
  pub added : List Added
  pub clauses : new.clauses ≡ old.clauses ++ added_clauses added
  pub counts : after ≡ record before { units = before.units ++ counted_clauses added }
  pub history : IsHistoryOf meaning.may_give old.clauses added
  pub are_units : AreUnits old.clauses (added_clauses added)
  pub sided :
      (var : ℕ) → IsOneSided meaning.may_give old.clauses var
      → IsOneSided meaning.may_give new.clauses var
  pub as_assumed :
      All (AreAsAssumed meaning.may_give old.clauses assumed) (counted_clauses added)
  pub order :
      AreInOrder old.clauses assumed old.trail.steps
      → AreInOrder new.clauses assumed new.trail.steps

-- clauses were counted: they are units beside those of the store, hold in all models, and have
-- one-sided variables of the store only negated and where they are assumed
pub record HasCounted (meaning : Meaning) (assumed : List Lit) (defined clauses : List (List Lit))
    (before after : Counted) : Type 0 where
  pub units : List (List Lit)
  pub counts : after ≡ record before { units = before.units ++ units }
  pub are : AreUnits clauses units
  pub hold : (values : List Bool) → IsModelOf meaning defined values → Meets values units
  pub sided : All (AreAsAssumed meaning.may_give clauses assumed) units

-- the trail went back to a level
pub record WentBack (level : ℕ) (old new : Searched) : Type 0 where
  pub clauses : new.clauses ≡ old.clauses
  pub trail : new.trail ≡ record old.trail { steps = up_to level old.trail.steps }
  pub present : present_level new.trail.steps ≡ level
  pub was_trail : IsTrail old.trail
  pub is_trail : IsTrail new.trail
  pub of_store : IsTrailOf new.trail.steps new.clauses

-- the clauses were propagated: forced assignments came last
pub record HasPropagated (old new : Searched) : Type 0 where
  pub clauses : new.clauses ≡ old.clauses
  pub dead : new.dead ≡ old.dead
  pub extends : Extends old.trail new.trail
  pub is_trail : IsTrail new.trail
  pub of_store : IsTrailOf new.trail.steps new.clauses

-- a clause that was learned, at the level to which it went back: unless its asserting literal is
-- true there by now, it may be counted
pub record IsLearned (clauses : List (List Lit)) (trail : Assigned) (clause : List Lit)
    (asserting : Lit) : Type 0 where
  pub refuted : Refutes clauses (negations clause)
  pub once : HasNoVariableTwice clause
  pub over : All (IsOver trail.vars) clause
  pub here : Contains clause asserting
  pub others : All (λ other. other ≢ asserting → IsFalse trail.steps other) clause
  pub stands : All (StandsIn clauses) clause

-- a conflict taught a clause, and the trail went back to a lower level, at which the clause forces
-- its asserting literal
pub record Taught (old new : Searched) (learned : Learned) : Type 0 where
  pub lower : learned.back < present_level old.trail.steps
  pub back : WentBack learned.back old new
  pub is_learned : IsLearned new.clauses new.trail learned.clause learned.asserting
  pub unset : value_of new.trail.steps learned.asserting ≡ Unset
  pub opposed :
      (assumed : List Lit) → AreInOrder old.clauses assumed old.trail.steps
      → AreOpposed new.clauses assumed learned.clause

-- below its present level a trail is as another was
pub record IsAsBelow (old new : List Step) : Type 0 where
  pub level : present_level new ≤ present_level old
  pub same : (level : ℕ) → level < present_level new → up_to level new ≡ up_to level old

-- the greatest level of the literals of a clause
abbrev pub IsLevelOf : Searched → ClauseRef → ℕ → Type 0
IsLevelOf state at level =
    (lits : List Lit) → slice_get state.clauses at.0 ≡ Some lits
    → level ≡ greatest_level state.trail.steps lits
