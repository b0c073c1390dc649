-- Bits of joined words, and rows of words of which one has the bits of another.
use Rattle.std.proofs.Common.{◌≡◌, ◌≢◌, ◌<◌, ◌⊎◌, ℕ, zero, suc, max, List, [], ◌∷◌}
use Rattle.std.proofs.Common.{length, set, replicate, refl, sym, ap, subst, ◌∙◌, inl, inr}
use Rattle.std.proofs.Common.{⊎_elim, arith}
use Rattle.std.specs.Prelude.{bit_or, slice_index}
use Rattle.std.specs.Int.{bit_at}
use Rattle.std.specs.Int.Bits.{or_zero_r}
use Rattle.std.proofs.lemmas.Nat.Bits.{bit_at_or, bit_at-lt, bit_at-zero}
use Rattle.std.proofs.lemmas.List.{get_or-set_same, get_or-set_other, set_past, get_or-replicate}
use Rattle.std.proofs.lemmas.List.{get_or_past, length-replicate}
use Rattle.std.proofs.lemmas.Bool.{cases_eq, cases_lt}
use Rattle.anytime_core.specs.Bits.{HasBit, IsPartOf, both}

-- the greater of two bits
greater_left : (x y : ℕ) → x ≡ 1 → y < 2 → max x y ≡ 1
greater_left x y one few = omega arith

greater_right : (x y : ℕ) → y ≡ 1 → x < 2 → max x y ≡ 1
greater_right x y one few = omega arith

greater_other : (x y : ℕ) → max x y ≡ 1 → x ≢ 1 → x < 2 → y ≡ 1
greater_other x y one other few = omega arith

pub not_both : (n : ℕ) → n ≡ 0 → n ≡ 1 → ⊥
not_both n none one = absurd (omega arith)

-- a bit of a joined word is one of the first or of the second
pub bit_from_or : (a b bit : ℕ) → HasBit (bit_or a b) bit → HasBit a bit ⊎ HasBit b bit
bit_from_or a b bit has =
    ⊎_elim (λ here. inl here)
    (λ other. inr (greater_other (bit_at a bit) (bit_at b bit) (sym (bit_at_or a b bit) ∙ has)
    other (bit_at-lt a bit)))
    (cases_eq (bit_at a bit) 1)

-- and those of both are bits of it
pub bit_or_left : (a b bit : ℕ) → HasBit a bit → HasBit (bit_or a b) bit
bit_or_left a b bit has =
    bit_at_or a b bit ∙ greater_left (bit_at a bit) (bit_at b bit) has (bit_at-lt b bit)

pub bit_or_right : (a b bit : ℕ) → HasBit b bit → HasBit (bit_or a b) bit
bit_or_right a b bit has =
    bit_at_or a b bit ∙ greater_right (bit_at a bit) (bit_at b bit) has (bit_at-lt a bit)

-- 0 has no bit
pub no_bit_of_zero : (bit : ℕ) → ¬ HasBit 0 bit
no_bit_of_zero bit has = not_both (bit_at 0 bit) (bit_at-zero bit) has

pub part_refl : (words : List ℕ) → IsPartOf words words
part_refl words place bit has = has

pub part_trans : (one two three : List ℕ) → IsPartOf one two → IsPartOf two three
    → IsPartOf one three
part_trans one two three first second place bit has = second place bit (first place bit has)

-- a bit of a row in which one word is another is one of that word, or was there
pub bit_from_set : (words : List ℕ) (place word other bit : ℕ)
    → HasBit (slice_index (set words place word) other) bit
    → ((other ≡ place) × HasBit word bit) ⊎ HasBit (slice_index words other) bit
bit_from_set words place word other bit has =
    ⊎_elim
    (λ same. ⊎_elim
    (λ within. inl (
      same,
      subst (λ n. HasBit n bit) (get_or-set_same words place word 0 within)
          (subst (λ p. HasBit (slice_index (set words place word) p) bit) same has),
    ))
    (λ past. inr (subst (λ xs. HasBit (slice_index xs other) bit) (set_past words place word past)
    has))
    (cases_lt place (length words)))
    (λ differ. inr (subst (λ n. HasBit n bit) (get_or-set_other words place other word 0 differ)
    has))
    (cases_eq other place)

-- where a word gets more bits, so does the row
pub part_grows : (words : List ℕ) (place word : ℕ)
    → ((bit : ℕ) → HasBit (slice_index words place) bit → HasBit word bit)
    → IsPartOf words (set words place word)
part_grows words place word grows other bit has =
    ⊎_elim
    (λ same. ⊎_elim
    (λ within. subst (λ p. HasBit (slice_index (set words place word) p) bit) (sym same)
    (subst (λ n. HasBit n bit) (sym (get_or-set_same words place word 0 within))
    (grows bit (subst (λ p. HasBit (slice_index words p) bit) same has))))
    (λ past. subst (λ xs. HasBit (slice_index xs other) bit)
    (sym (set_past words place word past)) has)
    (cases_lt place (length words)))
    (λ differ. subst (λ n. HasBit n bit) (sym (get_or-set_other words place other word 0 differ))
    has)
    (cases_eq other place)

-- so where the bits of a mask are added
pub part_with_mask : (words : List ℕ) (place mask : ℕ)
    → IsPartOf words (set words place (bit_or (slice_index words place) mask))
part_with_mask words place mask =
    part_grows words place (bit_or (slice_index words place) mask)
    (λ bit has. bit_or_left (slice_index words place) mask bit has)

-- a row of seen words of which one becomes the word as it stands stays a part
pub part_meets : (seen words : List ℕ) (place : ℕ) → IsPartOf seen words
    → IsPartOf (set seen place (slice_index words place)) words
part_meets seen words place part other bit has =
    ⊎_elim (λ t. subst (λ p. HasBit (slice_index words p) bit) (sym t.0) t.1)
    (λ old. part other bit old)
    (bit_from_set seen place (slice_index words place) other bit has)

-- the words of two rows, place by place
pub both_at : (ones others : List ℕ) (place : ℕ)
    → slice_index (both ones others) place
    ≡ bit_or (slice_index ones place) (slice_index others place)
both_at [] others place = refl
both_at (x ∷ xs) [] place = sym (or_zero_r (slice_index (x ∷ xs) place))
both_at (x ∷ xs) (y ∷ ys) zero = refl
both_at (x ∷ xs) (y ∷ ys) (suc place) = both_at xs ys place

pub length-both : (ones others : List ℕ) → length ones ≡ length others
    → length (both ones others) ≡ length ones
length-both [] [] same = refl
length-both [] (y ∷ ys) same = absurd (omega arith)
length-both (x ∷ xs) [] same = refl
length-both (x ∷ xs) (y ∷ ys) same = ap suc (length-both xs ys (omega arith))

-- each of two rows is a part of both, and both are part of what has each
pub part_of_both_left : (ones others : List ℕ) → IsPartOf ones (both ones others)
part_of_both_left ones others place bit has =
    subst (λ n. HasBit n bit) (sym (both_at ones others place))
    (bit_or_left (slice_index ones place) (slice_index others place) bit has)

pub part_of_both_right : (ones others : List ℕ) → IsPartOf others (both ones others)
part_of_both_right ones others place bit has =
    subst (λ n. HasBit n bit) (sym (both_at ones others place))
    (bit_or_right (slice_index ones place) (slice_index others place) bit has)

pub both_within : (ones others words : List ℕ) → IsPartOf ones words → IsPartOf others words
    → IsPartOf (both ones others) words
both_within ones others words one other place bit has =
    ⊎_elim (one place bit) (other place bit)
    (bit_from_or (slice_index ones place) (slice_index others place) bit
    (subst (λ n. HasBit n bit) (both_at ones others place) has))

-- a row of zeros has 0 at each place
pub zeros_at : (count place : ℕ) → slice_index (replicate count 0) place ≡ 0
zeros_at count place =
    ⊎_elim (λ within. get_or-replicate count place 0 0 within)
    (λ past. get_or_past (replicate count 0) place 0
    (omega (arith, length-replicate {A = ℕ} count 0)))
    (cases_lt place count)

pub zeros_are_part : (count : ℕ) (words : List ℕ) → IsPartOf (replicate count 0) words
zeros_are_part count words place bit has =
    absurd (no_bit_of_zero bit (subst (λ n. HasBit n bit) (zeros_at count place) has))
