-- The layout of a heap of variables by activity. No public clause cites this module.
use Rattle.std.specs.Prelude.{◌≡◌, ◌<◌, ◌≤◌, ◌^◌, ℕ, List, All, length}

-- what a contract sees of a heap: how many variables are numbered, from 0 on, and how many of them
-- are in it
pub record Heaped : Type 0 where
  pub size : ℕ
  pub count : ℕ

-- each variable has an activity and a place, and all that stands in the array is a variable
pub record AreVariables (activities places heap : List ℕ) : Type 0 where
  pub few : length activities ≤ 2 ^ 31
  pub placed : length places ≡ length activities
  pub sized : length heap ≡ length activities
  pub known : All (λ var. var < length activities) heap

-- and the heap is a front of the array
pub record IsHeap (activities places heap : List ℕ) (count : ℕ) : Type 0 where
  pub variables : AreVariables activities places heap
  pub counted : count ≤ length heap
