-- What it means to write the bits of words to truth values.
use Rattle.std.specs.Prelude.{◌≡◌, ◌+◌, ◌-◌, ◌*◌, ◌/◌, ◌%◌, ◌≤◌, ◌<◌, ◌⊎◌, ℕ, Bool, false, not}
use Rattle.std.specs.Prelude.{nat_eq, List, length}
use Rattle.std.specs.Prelude.{slice_index_or}
use Rattle.std.specs.Int.{bit_at}
use Rattle.ground_program.specs.declared.pair.Pair.{Pair}
use Rattle.ground_program.specs.Bounds.{IsPairOver}
use Rattle.anytime_core.specs.Bits.{is_set, words_for}

-- the truth values from `first` on are the bits of the word, and the others are as before
pub record IsShown (word first : ℕ) (old new : List Bool) : Type 0 where
  pub same_length : length new ≡ length old
  pub shown : (place : ℕ) → first ≤ place → place < first + 64 → place < length old
      → slice_index_or new place false ≡ nat_eq (bit_at word (place - first)) 1
  pub others : (place : ℕ) → (place < first) ⊎ (first + 64 ≤ place)
      → slice_index_or new place false ≡ slice_index_or old place false

-- they are the opposite of the bits
pub record IsShownNot (word first : ℕ) (old new : List Bool) : Type 0 where
  pub same_length : length new ≡ length old
  pub shown : (place : ℕ) → first ≤ place → place < first + 64 → place < length old
      → slice_index_or new place false ≡ not (nat_eq (bit_at word (place - first)) 1)
  pub others : (place : ℕ) → (place < first) ⊎ (first + 64 ≤ place)
      → slice_index_or new place false ≡ slice_index_or old place false

-- the pair has the bits of the first in-words and out-words of a row, so many of each
pub record IsShownUpTo (candidates : ℕ) (words : List ℕ) (pair : Pair) (count : ℕ) : Type 0 where
  pub over : IsPairOver candidates pair
  pub lower : (at : ℕ) → at < 64 * count → at < candidates
      → slice_index_or pair.lower at false ≡ is_set words (1 + at / 64) (at % 64)
  pub upper : (at : ℕ) → at < 64 * count → at < candidates
      → slice_index_or pair.upper at false
      ≡ not (is_set words (1 + words_for candidates + at / 64) (at % 64))
