-- Sets of numbers that know those that they have. No public clause cites this module.
use Rattle.std.specs.Prelude.{◌≡◌, ◌≢◌, ◌⊎◌, ℕ, Bool, true, List, [], ◌∷◌, ◌++◌, set}
use Rattle.std.specs.Prelude.{All, AllPairs, Contains}
use Rattle.ground_program.specs.Meaning.{IsIn}
use Rattle.unfounded_sets.specs.Waits.{IsStack}

-- for each number whether the set has it, and those that it has
pub record Marked : Type 0 where
  pub marks : List Bool
  pub list : List ℕ

-- the list has just the marked numbers, each once
pub record IsListed (it : Marked) : Type 0 where
  pub has : (number : ℕ) → IsIn it.marks number → Contains it.list number
  pub are : All (IsIn it.marks) it.list
  pub once : AllPairs (λ one two. one ≢ two) it.list

-- it does, and has room for all numbers
pub record AreListed (marks : List Bool) (list : List ℕ) (places : ℕ) : Type 0 where
  pub stack : IsStack marks list places
  pub are : All (IsIn marks) list
  pub once : AllPairs (λ one two. one ≢ two) list

-- a number was added
pub record IsAdded (number : ℕ) (old new : Marked) : Type 0 where
  pub marks : new.marks ≡ set old.marks number true
  pub list : (new.list ≡ old.list) ⊎ (new.list ≡ old.list ++ number ∷ [])
