use Rattle.std.proofs.Common.{◌≡◌, ◌+◌, false, length, Some, slice_get}
use Rattle.trial_inputs.proofs.sets.set_of.Given as goal

abbrev pub invariant-loop-atom : goal.invariant-loop-atom
invariant-loop-atom l = (length l.set ≡ l.atom + 1) × (slice_get l.set 0 ≡ Some false)
