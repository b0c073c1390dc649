-- What a reader keeps from one read to the next: words, and the truth values that they make.
use Rattle.std.specs.Prelude.{◌≡◌, ◌<◌, ◌/◌, ◌%◌, ℕ, Bool, false, not, nat_eq, List, length}
use Rattle.std.specs.Prelude.{slice_index, slice_index_or}
use Rattle.std.specs.Int.{bit_at}
use Rattle.anytime_core.specs.Bits.{words_for}

-- what the bit of an in-word says of its candidate
abbrev pub says_in : ℕ → ℕ → Bool
says_in word bit = nat_eq (bit_at word bit) 1

-- what the bit of an out-word says of its candidate
abbrev pub says_out : ℕ → ℕ → Bool
says_out word bit = not (nat_eq (bit_at word bit) 1)

-- there are as many words as the truth values need, and the values are what the words say
pub record Shows (says : ℕ → ℕ → Bool) (words : List ℕ) (bits : List Bool) : Type 0 where
  pub count : length words ≡ words_for (length bits)
  pub each : (place : ℕ) → place < length bits
      → slice_index_or bits place false ≡ says (slice_index words (place / 64)) (place % 64)
