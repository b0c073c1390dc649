-- An answer set without atoms: by it no candidate is a cautious consequence.
use Rattle.std.specs.Prelude.{◌≡◌, ℕ, Bool, false, List}
use Rattle.ground_program.specs.declared.program.Mode.{Mode}
use Rattle.ground_program.specs.declared.program.Mode.TheVariants.{Cautious}
use Rattle.ground_program.specs.Meaning.{has}
use Rattle.normal_program.specs.declared.normal.Normal.{Normal}
use Rattle.normal_program.specs.Normal.{IsAnswerSetN}

-- a set has no atom
abbrev pub IsEmpty : List Bool → Type 0
IsEmpty set = (atom : ℕ) → has set atom ≡ false

-- in cautious mode the answer set has no atom
pub record IsBlank (normal : Normal) (mode : Mode) (set : List Bool) : Type 0 where
  pub asked : mode ≡ Cautious
  pub answer : IsAnswerSetN normal set
  pub empty : IsEmpty set
