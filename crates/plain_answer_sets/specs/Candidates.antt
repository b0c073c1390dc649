-- What the parts of the search decide. No public clause cites this module.
use Rattle.std.specs.Prelude.{◌≡◌, ◌≢◌, ◌<◌, ℕ, Bool, List, length}
use Rattle.ground_program.specs.declared.program.Rule.{Rule}
use Rattle.ground_program.specs.declared.program.Program.{Program}
use Rattle.ground_program.specs.Meaning.{has, IsPart, KeepsAll, MeetsCompute, IsSetOver}

-- all that an answer set is, but for being least
pub record IsReductModel (program : Program) (set : List Bool) : Type 0 where
  pub over : IsSetOver program.atoms set
  pub compute : MeetsCompute program set
  pub keeps : KeepsAll set set program.rules

-- `part` comes from `trial` by taking away atoms from place `at` on
pub record IsCutFrom (trial : List Bool) (at : ℕ) (part : List Bool) : Type 0 where
  pub positions : length part ≡ length trial
  pub before : (place : ℕ) → place < at → has part place ≡ has trial place
  pub inside : IsPart part trial

-- `part` comes from `trial` so, isn't `by`, and keeps the rules of the reduct by `by`
pub record IsSmallerKeeper (by : List Bool) (rules : List Rule) (trial : List Bool) (at : ℕ)
    (part : List Bool) : Type 0 where
  pub cut : IsCutFrom trial at part
  pub other : part ≢ by
  pub keeps : KeepsAll by part rules

-- there is such a set
abbrev pub SomeSmallerKeeps : List Bool → List Rule → List Bool → ℕ → Type 0
SomeSmallerKeeps by rules trial at = (part : List Bool) × IsSmallerKeeper by rules trial at part
