-- The limit on variables, and which normal forms there are.
use Rattle.std.specs.Prelude.{◌≡◌, ◌≤◌, ℕ}
use Rattle.ground_program.specs.declared.program.Program.{Program}
use Rattle.ground_program.specs.Program.{IsProgram}
use Rattle.normal_program.specs.declared.normal.TheConstants.{MOST_VARIABLES}
use Rattle.normal_program.specs.declared.normal.Normal.{Normal}
use Rattle.normal_program.specs.Normal.{IsNormalFormOf, variables}

-- the number of variables of the normal form of a program
abbrev pub HasVariables : Program → ℕ → Type 0
HasVariables program count =
    (normal : Normal) × IsNormalFormOf normal program × (variables normal ≡ count)

-- the normal form of some program, with few enough variables
pub record IsNormal (normal : Normal) : Type 0 where
  pub source : Program
  pub valid : IsProgram source
  pub form : IsNormalFormOf normal source
  pub few : variables normal ≤ MOST_VARIABLES
