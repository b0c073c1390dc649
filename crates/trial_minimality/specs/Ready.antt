-- What a scene is.
use Rattle.std.specs.Prelude.{◌<◌}
use Rattle.ground_program.specs.declared.program.Program.{Program}
use Rattle.normal_program.specs.declared.normal.Normal.{Normal}
use Rattle.normal_program.specs.Limit.{IsNormal}
use Rattle.normal_program.specs.Normal.{IsNormalFormOf}

-- a program of few atoms with its normal form
pub record IsReady (program : Program) (normal : Normal) : Type 0 where
  pub is_normal : IsNormal normal
  pub form : IsNormalFormOf normal program
  pub few : normal.atoms < 16
