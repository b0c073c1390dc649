-- What the tests keep of an engine over a listed theory.
use Rattle.std.specs.Prelude.{◌≡◌, Bool, List, [], false, All}
use Rattle.clause_store.specs.declared.literal.Lit.{Lit}
use Rattle.clause_store.specs.Clause.{HasNoVariableTwice, Meets}
use Rattle.search_state.specs.State.{Searched}
use Rattle.assumption_engine.specs.Engine.{IsRight}
use Rattle.trial_engine.specs.Told.{IsToldModel, Told, meaning_of}

-- the engine is right unless it is dead, and the models of its theory meet some clauses, none of
-- which has a variable twice
pub record IsSound (theory : Told) (state : Searched) (defined : List (List Lit)) (dead : Bool)
    (listed : List (List Lit)) : Type 0 where
  pub right : dead ≡ false → IsRight (meaning_of theory) [] state defined
  pub met : (values : List Bool) → IsToldModel theory values → Meets values listed
  pub once : All HasNoVariableTwice listed
