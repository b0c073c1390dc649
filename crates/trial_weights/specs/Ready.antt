-- What the calls on weight bodies ask of a normal form, a trail and weights, and leave.
use Rattle.std.specs.Prelude.{◌≡◌, ◌≤◌}
use Rattle.clause_store.specs.Trail.{Assigned}
use Rattle.clause_store.specs.Standing.{AreFollowed}
use Rattle.normal_program.specs.declared.normal.Normal.{Normal}
use Rattle.normal_program.specs.Limit.{IsNormal}
use Rattle.normal_program.specs.Normal.{greatest_body_var}
use Rattle.weight_propagator.specs.Weighed.{Weighed}

-- the weights are those of the normal form, and follow assignments of the trail
pub record IsReady (normal : Normal) (trail : Assigned) (weights : Weighed) : Type 0 where
  pub is_normal : IsNormal normal
  pub same : weights.normal ≡ normal
  pub over : greatest_body_var normal ≤ trail.vars
  pub followed : AreFollowed trail.steps weights.followed
