-- Which budgets are large enough for every test, and what the answers are under them.
use Rattle.std.specs.Prelude.{◌≡◌, ◌≤◌, ◌^◌, ◌⊎◌, ℕ, Bool, List}
use Rattle.ground_program.specs.declared.program.Program.{Program}
use Rattle.ground_program.specs.Meaning.{IsAnswerSet}
use Rattle.normal_program.specs.Limit.{HasVariables}

-- the budget is at least 3 to the power of the number of variables of the program's normal form
abbrev pub IsAmple : Program → ℕ → Type 0
IsAmple program budget = (count : ℕ) → HasVariables program count → 3 ^ count ≤ budget

-- there is an answer set
abbrev pub HasAnswerSet : Program → Type 0
HasAnswerSet program = (set : List Bool) × IsAnswerSet program set

-- the status says whether there is an answer set: 0 where there is one and 2 where there is none;
-- or memory ran out
abbrev pub IsDecision : Program → ℕ → Type 0
IsDecision program status =
    ((status ≡ 0) × HasAnswerSet program)
    ⊎ (((status ≡ 2) × (¬ HasAnswerSet program)) ⊎ (status ≡ 7))

-- by an ample budget the program is decided
abbrev pub IsDecidedBy : Program → ℕ → ℕ → Type 0
IsDecidedBy program budget status = IsAmple program budget → IsDecision program status
