-- Which bodies wait to be looked at. No public clause cites this module.
use Rattle.std.specs.Prelude.{◌≡◌, ◌≤◌, ◌<◌, ℕ, Bool, true, false, List, length, get_or, Option}
use Rattle.std.specs.Prelude.{All, Any, sum_by}

-- which bodies wait, which one is the next, and how many are left on the stack
pub record Waited : Type 0 where
  pub waits : List Bool
  pub next : Option ℕ
  pub left : ℕ

-- how many wait
abbrev pub one_if : Bool → ℕ
one_if true = 1
one_if false = 0

-- those that wait are on the stack, which has no more places than they are, and room for all
pub record IsStack (waits : List Bool) (stack : List ℕ) (places : ℕ) : Type 0
  where
    pub has : (row : ℕ) → get_or waits row false ≡ true → Any (λ one. one ≡ row) stack
    pub within : All (λ one. one < length waits) stack
    pub few : length stack ≤ sum_by one_if waits
    pub room : length waits ≤ places
