use Rattle.std.proofs.Common.{◌≡◌, replicate}
use Rattle.anytime_core.proofs.row.zeros.Given as goal

abbrev pub invariant-loop-place : goal.invariant-loop-place
invariant-loop-place l = l.words ≡ replicate l._place 0
