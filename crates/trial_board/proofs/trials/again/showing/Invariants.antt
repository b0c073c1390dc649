use Rattle.std.proofs.Common.{◌≡◌, ◌+◌, false, length, Some, slice_get}
use Rattle.trial_board.proofs.trials.again.showing.Given as goal

abbrev pub invariant-loop-at : goal.invariant-loop-at
invariant-loop-at l = (length l.set ≡ l.at + 1) × (slice_get l.set 0 ≡ Some false)
