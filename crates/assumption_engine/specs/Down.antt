-- What going back keeps. No public clause cites this module.
use Rattle.std.specs.Prelude.{◌≡◌, ℕ, List}
use Rattle.clause_store.specs.declared.literal.Lit.{Lit}
use Rattle.clause_store.specs.declared.step.Step.{Step}
use Rattle.clause_store.specs.Trail.{IsTrail}
use Rattle.search_state.specs.State.{Searched}
use Rattle.search_heuristics.specs.Places.{AreTrueBefore}
use Rattle.assumption_engine.specs.Engine.{IsAsBelow}
use Rattle.assumption_engine.specs.Sided.{AreInOrder}

-- places of assumed literals that are right on the old trail are right on the new one
abbrev pub KeepsPlaces : List Step → List Step → Type 0
KeepsPlaces old new =
    (assumed : List Lit) (places : List ℕ) → AreTrueBefore assumed old places
    → AreTrueBefore assumed new places

-- a search went back, maybe over conflicts
pub record IsDown (old new : Searched) : Type 0 where
  pub clauses : new.clauses ≡ old.clauses
  pub vars : new.trail.vars ≡ old.trail.vars
  pub was_trail : IsTrail old.trail
  pub is_trail : IsTrail new.trail
  pub below : IsAsBelow old.trail.steps new.trail.steps
  pub order :
      (assumed : List Lit) → AreInOrder old.clauses assumed old.trail.steps
      → AreInOrder new.clauses assumed new.trail.steps
  pub keeps : KeepsPlaces old.trail.steps new.trail.steps
