use Rattle.std.proofs.Common.{◌≡◌}
use Rattle.std.specs.Prelude.{false}
use Rattle.trial_engine.proofs.trials.propagation.state_of.Given as goal

abbrev pub invariant-loop-codes : goal.invariant-loop-codes
invariant-loop-codes l = record {
  alive : l.state.dead ≡ false;
  same_vars : l.state.trail.vars ≡ l.vars;
}
