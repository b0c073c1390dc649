-- What a kept search is: an engine for the models of the pair program of a normal form.
use Rattle.std.specs.Prelude.{◌≡◌, ◌<◌, ◌⊎◌, ℕ, false, []}
use Rattle.ground_program.specs.declared.program.Program.{Program}
use Rattle.normal_program.specs.declared.normal.TheConstants.{MOST_VARIABLES}
use Rattle.normal_program.specs.declared.normal.Normal.{Normal}
use Rattle.normal_program.specs.Limit.{HasVariables, IsNormal}
use Rattle.normal_program.specs.Normal.{greatest_body_var, IsNormalFormOf}
use Rattle.pair_program.specs.Pairs.{FitsFormat, IsPairProgram}
use Rattle.assumption_engine.specs.declared.engine.Engine.{Engine}
use Rattle.assumption_engine.specs.Engine.{IsRight}
use Rattle.assumption_engine.specs.Theory.{MeansTheSame}
use Rattle.kept_minimality.specs.Pairing.{meaning_of, Paired}

-- the normal form of the pair program of a normal form
pub record IsPairForm (normal pair : Normal) : Type 0 where
  pub program : Program
  pub pairs : IsPairProgram normal program
  pub form : IsNormalFormOf pair program
  pub is_normal : IsNormal pair

-- a pair program has a normal form with more variables than allowed
pub record HasTooManyVariables (normal : Normal) : Type 0 where
  pub program : Program
  pub pairs : IsPairProgram normal program
  pub count : ℕ
  pub has : HasVariables program count
  pub many : MOST_VARIABLES < count

-- the pair program is too large: it can't be written in the format, or has too many variables
abbrev pub IsTooLarge : Normal → Type 0
IsTooLarge normal = (¬ FitsFormat normal) ⊎ HasTooManyVariables normal

-- an engine that was opened over the normal form of the pair program
pub record IsOpened (normal pair : Normal) (engine : Engine Paired) : Type 0 where
  pub pairs : IsPairForm normal pair
  pub same : engine.theory.pair ≡ pair
  pub defined : engine.defined ≡ []
  pub right :
      IsRight (meaning_of engine.theory.pair) engine.theory.followed engine.state engine.defined
  pub vars : engine.state.trail.vars ≡ greatest_body_var pair

-- what a kept search keeps: an engine that means the models of the pair program and, until memory
-- runs out, is right
pub record IsKept (normal : Normal) (engine : Engine Paired) : Type 0 where
  pub is_normal : IsNormal normal
  pub pair : Normal
  pub pairs : IsPairForm normal pair
  pub same : MeansTheSame (meaning_of pair) (meaning_of engine.theory.pair)
  pub defined : engine.defined ≡ []
  pub right :
      engine.dead ≡ false
      → IsRight (meaning_of engine.theory.pair) engine.theory.followed engine.state engine.defined
  pub vars : engine.dead ≡ false → engine.state.trail.vars ≡ greatest_body_var pair
