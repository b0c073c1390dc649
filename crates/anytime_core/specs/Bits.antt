-- Where the bits of candidates stand in a row of words, and what pair such a row gives. Word 0 has
-- flags; then come the in-words and as many out-words, with a bit for each candidate.
use Rattle.std.specs.Prelude.{◌≡◌, ◌≤◌, ◌+◌, ◌-◌, ◌/◌, ◌%◌, ℕ, Bool, false, not, nat_eq, List, []}
use Rattle.std.specs.Prelude.{◌∷◌, slice_index, slice_index_or, bit_or}
use Rattle.std.specs.Int.{bit_at}
use Rattle.ground_program.specs.declared.pair.Pair.{Pair}
use Rattle.ground_program.specs.Bounds.{IsPairOver}

-- a word has the bit of this number
abbrev pub HasBit : ℕ → ℕ → Type 0
HasBit word bit = bit_at word bit ≡ 1

-- whether the word at a place of the row has the bit
abbrev pub is_set : List ℕ → ℕ → ℕ → Bool
is_set words place bit = nat_eq (bit_at (slice_index words place) bit) 1

-- how many words have a bit for each of so many candidates
abbrev pub words_for : ℕ → ℕ
words_for candidates = (candidates + 63) / 64

-- how many words the row has
abbrev pub all_words : ℕ → ℕ
all_words candidates = 1 + words_for candidates + words_for candidates

-- the place of the word that has the in-bit of a candidate
abbrev pub in_place : ℕ → ℕ
in_place cand = 1 + (cand - 1) / 64

-- the place of the word that has its out-bit
abbrev pub out_place : ℕ → ℕ → ℕ
out_place candidates cand = 1 + words_for candidates + (cand - 1) / 64

-- the number of both bits in their words
abbrev pub bit_of : ℕ → ℕ
bit_of cand = (cand - 1) % 64

-- the pair that a row of words gives: the lower bound has the candidates whose in-bit is set, the
-- upper bound those whose out-bit isn't
pub record IsPairOf (candidates : ℕ) (words : List ℕ) (pair : Pair) : Type 0 where
  pub over : IsPairOver candidates pair
  pub lower : (cand : ℕ) → 1 ≤ cand → cand ≤ candidates
      → slice_index_or pair.lower (cand - 1) false ≡ is_set words (in_place cand) (bit_of cand)
  pub upper : (cand : ℕ) → 1 ≤ cand → cand ≤ candidates
      → slice_index_or pair.upper (cand - 1) false
      ≡ not (is_set words (out_place candidates cand) (bit_of cand))

-- each bit of a row is in another
abbrev pub IsPartOf : List ℕ → List ℕ → Type 0
IsPartOf part whole =
    (place bit : ℕ) → HasBit (slice_index part place) bit → HasBit (slice_index whole place) bit

-- the bits of two rows
abbrev pub both : List ℕ → List ℕ → List ℕ
both [] others = others
both (word ∷ words) [] = word ∷ words
both (word ∷ words) (other ∷ others) = bit_or word other ∷ both words others
