-- What the calls on founding and on testers ask of their parts, and leave.
use Rattle.std.specs.Prelude.{◌≡◌, ◌≤◌}
use Rattle.ground_program.specs.declared.program.Program.{Program}
use Rattle.clause_store.specs.Standing.{AreFollowed}
use Rattle.clause_store.specs.Trail.{Assigned}
use Rattle.normal_program.specs.declared.normal.Normal.{Normal}
use Rattle.normal_program.specs.Limit.{IsNormal}
use Rattle.normal_program.specs.Normal.{greatest_body_var, IsNormalFormOf}
use Rattle.unfounded_sets.specs.Followed.{Founding}
use Rattle.coherence_test.specs.Testing.{Testing}

-- founding is that of the normal form and follows the trail, which has its variables
pub record IsOpen (normal : Normal) (trail : Assigned) (founding : Founding) : Type 0 where
  pub is_normal : IsNormal normal
  pub over : greatest_body_var normal ≤ trail.vars
  pub same : founding.normal ≡ normal
  pub followed : AreFollowed trail.steps founding.followed

-- the tester is that of the program's normal form
pub record IsReady (program : Program) (normal : Normal) (tester : Testing) : Type 0 where
  pub is_normal : IsNormal normal
  pub form : IsNormalFormOf normal program
  pub same : tester.normal ≡ normal
