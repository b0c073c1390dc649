use Rattle.std.proofs.Common.{◌≡◌, ◌≤◌, ◌<◌, ◌+◌, ℕ, length}
use Rattle.unfounded_sets.specs.Sources.{Waits}
use Rattle.unfounded_sets.proofs.sources.all_lost.Given as goal

abbrev pub invariant-loop-atom : goal.invariant-loop-atom
invariant-loop-atom l = record {
  count : length l.lost.waits ≡ l.atoms + 1;
  all : (one : ℕ) → 1 ≤ one → one < l.atom → Waits l.lost one;
}
