use Rattle.std.specs.Prelude.{◌≡◌, ◌+◌, length}
use Rattle.trial_engine.proofs.trials.listed.empty_clauses.Given as goal

abbrev pub invariant-loop : goal.invariant-loop
invariant-loop l = length l.units ≡ l.counter
