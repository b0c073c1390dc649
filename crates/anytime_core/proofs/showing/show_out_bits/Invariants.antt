use Rattle.std.proofs.Common.{◌≡◌, ◌<◌, ◌≤◌, ◌⊎◌, ◌-◌, ℕ, Bool, false, not, List, length}
use Rattle.std.specs.Prelude.{slice_index_or, nat_eq}
use Rattle.std.specs.Int.{bit_at}
use Rattle.anytime_core.proofs.showing.show_out_bits.Given as goal

-- the places from the first to this one are written, and the others are as at first
pub record HasShown (word first : ℕ) (old new : List Bool) (place : ℕ) : Type 0 where
  pub same_length : length new ≡ length old
  pub shown : (at : ℕ) → first ≤ at → at < place
      → slice_index_or new at false ≡ not (nat_eq (bit_at word (at - first)) 1)
  pub others : (at : ℕ) → (at < first) ⊎ (place ≤ at)
      → slice_index_or new at false ≡ slice_index_or old at false

abbrev pub invariant-loop-place : goal.invariant-loop-place
invariant-loop-place l = HasShown l.word l.first l.initial.bits l.bits l.place
