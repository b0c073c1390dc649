use Rattle.std.proofs.Common.{◌≡◌}
use Rattle.assumption_engine.proofs.steering.Steering.bump_all.Given as goal

abbrev pub invariant-vars : goal.invariant-vars
invariant-vars l = l.self.places ≡ l.fn.self.places
