-- How far a search has come: a number that rises with each of its turns while no clause is added to
-- its store. It is read off the numbers of assignments of each level, the lower levels counting
-- more. A conflict counts more than any number of assignments of the level where it is found.
use Rattle.std.specs.Prelude.{◌+◌, ◌*◌, ◌^◌, ◌==◌, ◌≤◌, ◌⊎◌, ℕ, zero, suc, Bool, true, false}
use Rattle.std.specs.Prelude.{IsTrue}
use Rattle.std.specs.Prelude.{if◌then◌else◌, List, length, filter}
use Rattle.clause_store.specs.declared.step.Step.{Step}
use Rattle.clause_store.specs.Trail.{present_level}

-- how many assignments are of a level
abbrev pub count_at : List Step → ℕ → ℕ
count_at steps level = length (filter (λ step. step.level == level) steps)

-- what a level counts on a trail over `vars` variables: its assignments, or where there is a
-- conflict at the present level one more than there are variables
abbrev pub level_digit : ℕ → Bool → List Step → ℕ → ℕ
level_digit vars false steps level = count_at steps level
level_digit vars true steps level =
    if level == present_level steps then vars + 1 else count_at steps level

-- the number of so many digits to a base, the first one counting most
unfoldable pub numeral : ℕ → (ℕ → ℕ) → ℕ → ℕ
numeral base digits zero = 0
numeral base digits (suc count) = numeral base digits count * base + digits count

-- how far a search has come with these assignments, and with a conflict or without
unfoldable pub progress : ℕ → Bool → List Step → ℕ
progress vars conflict steps = numeral (vars + 2) (level_digit vars conflict steps) (vars + 1)

-- no search over `vars` variables comes so far
abbrev pub most_progress : ℕ → ℕ
most_progress vars = (vars + 2) ^ (vars + 1)

-- a turn has done something: an assignment was added, or a conflict was found
abbrev pub HasGoneOn : List Step → Bool → Type 0
HasGoneOn added conflict = (1 ≤ length added) ⊎ IsTrue conflict
