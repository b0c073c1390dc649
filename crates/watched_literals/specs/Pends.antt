-- Which clauses are pending. No public clause cites this module.
use Rattle.std.specs.Prelude.{◌≡◌, ◌≢◌, ◌≤◌, ◌<◌, ◌+◌, ℕ, Bool, true, false, List, length, get_or}
use Rattle.std.specs.Prelude.{All, Any, sum_by}

-- for each clause whether it is pending, and the numbers of those that are
pub record Waited : Type 0 where
  pub waits : List Bool
  pub stack : List ℕ

-- how many wait
abbrev pub one_if : Bool → ℕ
one_if true = 1
one_if false = 0

-- those that wait are on the stack, which has no more places than they are, and room for all
pub record IsStack (waits : List Bool) (stack : List ℕ) (places : ℕ) : Type 0 where
  pub has : (row : ℕ) → get_or waits row false ≡ true → Any (λ one. one ≡ row) stack
  pub within : All (λ one. one < length waits) stack
  pub few : length stack ≤ sum_by one_if waits
  pub room : length waits ≤ places

-- each that waits is on the stack, and each there is a clause
pub record HasAllWaiting (it : Waited) : Type 0 where
  pub has : (row : ℕ) → get_or it.waits row false ≡ true → Any (λ one. one ≡ row) it.stack
  pub within : All (λ one. one < length it.waits) it.stack

-- one place is gone, and the last one may have taken it
pub record IsLeftOut (at : ℕ) (old new : List ℕ) : Type 0 where
  pub count : length new + 1 ≡ length old
  pub here : (d : ℕ) → at < length new → get_or new at d ≡ get_or old (length new) d
  pub others : (k d : ℕ) → k ≢ at → k < length new → get_or new k d ≡ get_or old k d
