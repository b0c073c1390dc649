use Rattle.std.proofs.Common.{◌≡◌, ◌<◌, ◌≤◌, ℕ, List, length}
use Rattle.std.specs.Prelude.{bit_or, slice_index}
use Rattle.anytime_core.proofs.row.add_bits.Given as goal

-- the words before the place have the bits of both, and the others are as at first
pub record HasAdded (old others words : List ℕ) (place : ℕ) : Type 0 where
  pub same_length : length words ≡ length old
  pub before : (at : ℕ) → at < place
      → slice_index words at ≡ bit_or (slice_index old at) (slice_index others at)
  pub behind : (at : ℕ) → place ≤ at → slice_index words at ≡ slice_index old at

abbrev pub invariant-loop-place : goal.invariant-loop-place
invariant-loop-place l = HasAdded l.initial.words l.others l.words l.place
