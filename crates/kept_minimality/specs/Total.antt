-- Total trails over the atoms and bodies of a normal form.
use Rattle.std.specs.Prelude.{◌≤◌}
use Rattle.clause_store.specs.Trail.{Assigned, IsTrail, IsTotal}
use Rattle.normal_program.specs.declared.normal.Normal.{Normal}
use Rattle.normal_program.specs.Normal.{greatest_body_var}

-- a total trail over the variables of atoms and bodies
pub record IsTotalOver (normal : Normal) (trail : Assigned) : Type 0 where
  pub is_trail : IsTrail trail
  pub total : IsTotal trail
  pub over : greatest_body_var normal ≤ trail.vars
