use Rattle.std.proofs.Common.{◌≡◌, ◌<◌, ℕ, false}
use Rattle.master_record.specs.Course.{is_left_at}
use Rattle.master_record.proofs.candidates.next_left.Given as goal

abbrev pub invariant-loop-place : goal.invariant-loop-place
invariant-loop-place l = (k : ℕ) → k < l.place → is_left_at l.left k ≡ false
