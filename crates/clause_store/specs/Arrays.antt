-- How a trail keeps its answers in arrays. No public clause cites this module.
use Rattle.std.specs.Prelude.{◌≡◌, ◌<◌, ◌≤◌, ◌+◌, ◌*◌, ◌^◌, ◌++◌, ◌∷◌, [], ℕ, List, length}
use Rattle.std.specs.Prelude.{slice_index_or, Option}
use Rattle.clause_store.specs.declared.literal.Value.{Value}
use Rattle.clause_store.specs.declared.step.Step.{Step}
use Rattle.clause_store.specs.Trail.{IsTrail, place_of, value_of, present_level}

-- an array holds the answers of a function from 0 on
pub record IsTable {X : Type 0} (answer : ℕ → X) (size : ℕ) (table : List X) : Type 0 where
  pub size_is : length table ≡ size
  pub answers : (k : ℕ) (d : X) → k < size → slice_index_or table k d ≡ answer k

-- the arrays hold the place of each variable's assignment and the value of each literal
pub record AreAnswers (vars : ℕ) (steps : List Step) (variables : List (Option ℕ))
    (literals : List Value) : Type 0 where
  pub places : IsTable (place_of steps) (vars + 1) variables
  pub values : IsTable (λ code. value_of steps (record { 0 = code })) (2 * vars + 2) literals

-- what is true of the fields of a trail; the vector of the steps counts `count` and has room for
-- `room`
pub record IsKept (vars : ℕ) (steps : List Step) (count room : ℕ) (places : List (Option ℕ))
    (values : List Value) : Type 0 where
  pub few : vars < 2 ^ 31
  pub trail : IsTrail (record { vars = vars; steps = steps })
  pub counted : count ≡ length steps
  pub reserved : vars ≤ room
  pub answers : AreAnswers vars steps places values

-- the last assignment was taken off: the level before was the same or one less
pub record IsWithoutLast (old new : List Step) : Type 0 where
  pub last : Step
  pub steps : old ≡ new ++ last ∷ []
  pub present : present_level old ≡ last.level
  pub before : last.level ≤ present_level new + 1
