-- The atoms and numbers of a normal form are in range, so each literal has a variable of its own
-- kind.
use Rattle.std.specs.Prelude.{◌≤◌, ◌<◌, length, All}
use Rattle.ground_program.specs.Program.{HeadsFit}
use Rattle.normal_program.specs.declared.normal.TheConstants.{MOST_VARIABLES}
use Rattle.normal_program.specs.declared.normal.Normal.{Normal}
use Rattle.normal_program.specs.Normal.{variables}
use Rattle.normal_program.specs.Loop.{IsAtomOf}

-- every atom that a normal form names is one of its atoms, heads fit the kinds of rules, every
-- number is that of a body, and the variables are few
pub record IsInRange (normal : Normal) : Type 0 where
  pub parts : All (λ body. All (λ part. IsAtomOf normal part.lit.atom) body.parts) normal.bodies
  pub heads : All (λ rule. All (IsAtomOf normal) rule.heads) normal.rules
  pub heads_fit : All (λ rule. HeadsFit rule.kind rule.heads) normal.rules
  pub numbers : All (λ rule. rule.body < length normal.bodies) normal.rules
  pub names : All (λ named. IsAtomOf normal named.atom) normal.names
  pub must : All (IsAtomOf normal) normal.must
  pub must_not : All (IsAtomOf normal) normal.must_not
  pub few : variables normal ≤ MOST_VARIABLES
