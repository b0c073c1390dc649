use Rattle.std.proofs.Common.{ℕ, ◌≤◌, ◌<◌}
use Rattle.std.specs.Prelude.{IsSome}
use Rattle.clause_store.specs.Trail.{step_of}
use Rattle.search_heuristics.proofs.decision_order.unset_after.Given as goal

abbrev pub invariant-loop-before : goal.invariant-loop-before
invariant-loop-before l =
    (var : ℕ) → l.passed < var → var ≤ l.before → IsSome (step_of l.trail.steps var)
