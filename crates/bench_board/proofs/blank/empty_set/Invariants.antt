use Rattle.std.proofs.Common.{◌≡◌, ◌+◌, false, length, replicate, Some, slice_get}
use Rattle.bench_board.proofs.blank.empty_set.Given as goal

abbrev pub invariant-loop-atom : goal.invariant-loop-atom
invariant-loop-atom l =
    (l.set ≡ replicate (l._atom + 1) false)
    × (length l.set ≡ l._atom + 1)
    × (slice_get l.set 0 ≡ Some false)
