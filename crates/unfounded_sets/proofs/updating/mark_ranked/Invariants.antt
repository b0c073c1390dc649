use Rattle.std.proofs.Common.{◌≡◌, ◌<◌, ℕ, length}
use Rattle.ground_program.specs.Meaning.{IsIn}
use Rattle.unfounded_sets.specs.Sources.{rank_of}
use Rattle.unfounded_sets.proofs.updating.mark_ranked.Given as goal

abbrev pub invariant-loop-atom : goal.invariant-loop-atom
invariant-loop-atom l = record {
  ranked : (one : ℕ) → one < l.atom → IsIn l.set one → rank_of l.sources one < l.sources.next;
  size : length l.set ≡ length l.initial.set;
}
