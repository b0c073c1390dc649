-- Why a program is refused.
use Rattle.std.specs.Prelude.{◌<◌, ⊤}
use Rattle.ground_program.specs.declared.program.Program.{Program}
use Rattle.rule_normaliser.specs.declared.error.NormalError.{NormalError}
use Rattle.rule_normaliser.specs.declared.error.NormalError.TheVariants.{TooManyVariables, NoMemory}
use Rattle.normal_program.specs.declared.normal.TheConstants.{MOST_VARIABLES}
use Rattle.normal_program.specs.Limit.{HasVariables}

-- a program is refused for its number of variables, which is over the limit, or for want of memory
abbrev pub IsCauseOf : Program → NormalError → Type 0
IsCauseOf program (TooManyVariables count) = HasVariables program count × (MOST_VARIABLES < count)
IsCauseOf program NoMemory = ⊤
