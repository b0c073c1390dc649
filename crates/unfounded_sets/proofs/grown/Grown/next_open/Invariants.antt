use Rattle.std.proofs.Common.{◌≡◌}
use Rattle.unfounded_sets.proofs.grown.Grown.next_open.Given as goal

abbrev pub invariant-loop-place : goal.invariant-loop-place
invariant-loop-place l = l.self ≡ l.initial.self
