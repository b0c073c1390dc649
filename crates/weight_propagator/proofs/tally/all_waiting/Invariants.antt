use Rattle.std.proofs.Common.{◌≡◌, ◌<◌, ℕ, length, get_or, true, false}
use Rattle.weight_propagator.proofs.tally.all_waiting.Given as goal

abbrev pub invariant-loop-row : goal.invariant-loop-row
invariant-loop-row l = record {
  same : length l.waiting.waits ≡ l.count;
  all : (k : ℕ) → k < l.row → get_or l.waiting.waits k false ≡ true;
}
