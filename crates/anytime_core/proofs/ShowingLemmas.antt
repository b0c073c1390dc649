-- From the bits of words to a pair, word by word.
use Rattle.std.proofs.Common.{◌≡◌, ◌<◌, ◌≤◌, ◌+◌, ◌-◌, ◌*◌, ◌/◌, ◌%◌, ℕ, false, not, List}
use Rattle.std.proofs.Common.{get_or, sym, ap, subst, ◌∙◌, inl, ⊎_elim, arith}
use Rattle.std.specs.Prelude.{slice_index, nat_eq}
use Rattle.std.specs.Int.{bit_at}
use Rattle.std.proofs.lemmas.Bool.{cases_lt}
use Rattle.ground_program.specs.declared.pair.Pair.{Pair}
use Rattle.ground_program.specs.Bounds.{IsPairOver}
use Rattle.anytime_core.specs.Bits.{is_set, words_for, IsPairOf}
use Rattle.anytime_core.specs.Showing.{IsShown, IsShownNot, IsShownUpTo}

pub shown_start : (candidates : ℕ) (words : List ℕ) (pair : Pair) → IsPairOver candidates pair
    → IsShownUpTo candidates words pair 0
shown_start candidates words pair over =
    record {
      over = over;
      lower = λ at none within. absurd (omega arith);
      upper = λ at none within. absurd (omega arith);
    }

-- the word and the bit of a place that was just written
quotient_is : (at count : ℕ) → 64 * count ≤ at → at < 64 * count + 64 → at / 64 ≡ count
quotient_is at count from to = omega arith

rest_is : (at count : ℕ) → 64 * count ≤ at → at < 64 * count + 64 → at - 64 * count ≡ at % 64
rest_is at count from to = omega arith

-- one more in-word and one more out-word
module _ (candidates : ℕ) (words : List ℕ) (old new : Pair) (count : ℕ)
    (before : IsShownUpTo candidates words old count)
    (inside : IsShown (slice_index words (1 + count)) (64 * count) old.lower new.lower)
    (outside : IsShownNot (slice_index words (1 + words_for candidates + count)) (64 * count)
    old.upper new.upper) where
  lower_next : (at : ℕ) → at < 64 * (count + 1) → at < candidates
      → get_or new.lower at false ≡ is_set words (1 + at / 64) (at % 64)
  lower_next at less within =
      ⊎_elim
      (λ early. inside.others at (inl early) ∙ before.lower at early within)
      (λ now.
      let few : at < 64 * count + 64 = omega arith in
      inside.shown at now few (subst (λ n. at < n) (sym before.over.lower) within)
      ∙ ap (λ n. nat_eq (bit_at (slice_index words (1 + count)) n) 1) (rest_is at count now few)
      ∙ ap (λ n. is_set words (1 + n) (at % 64)) (sym (quotient_is at count now few)))
      (cases_lt at (64 * count))

  upper_next : (at : ℕ) → at < 64 * (count + 1) → at < candidates
      → get_or new.upper at false
      ≡ not (is_set words (1 + words_for candidates + at / 64) (at % 64))
  upper_next at less within =
      ⊎_elim
      (λ early. outside.others at (inl early) ∙ before.upper at early within)
      (λ now.
      let few : at < 64 * count + 64 = omega arith in
      outside.shown at now few (subst (λ n. at < n) (sym before.over.upper) within)
      ∙ ap (λ n. not (nat_eq
      (bit_at (slice_index words (1 + words_for candidates + count)) n) 1))
      (rest_is at count now few)
      ∙ ap (λ n. not (is_set words (1 + words_for candidates + n) (at % 64)))
      (sym (quotient_is at count now few)))
      (cases_lt at (64 * count))

  pub shown_next : IsShownUpTo candidates words new (count + 1)
  shown_next =
      record {
        over = record {
          lower = inside.same_length ∙ before.over.lower;
          upper = outside.same_length ∙ before.over.upper;
        };
        lower = lower_next;
        upper = upper_next;
      }

-- all words are shown
pub shown_end : (candidates : ℕ) (words : List ℕ) (pair : Pair)
    → IsShownUpTo candidates words pair (words_for candidates) → IsPairOf candidates words pair
shown_end candidates words pair all =
    record {
      over = all.over;
      lower = λ cand first last. all.lower (cand - 1) (early cand first last) (omega arith);
      upper = λ cand first last. all.upper (cand - 1) (early cand first last) (omega arith);
    }
  where
    early : (cand : ℕ) → 1 ≤ cand → cand ≤ candidates
        → cand - 1 < 64 * ((candidates + 63) / 64)
    early cand first last = omega arith

-- what is shown of a row is shown of any row with the same words so far
pub shown_again : (candidates : ℕ) (words others : List ℕ) (pair : Pair) (count : ℕ)
    → IsShownUpTo candidates words pair count
    → ((at : ℕ) → at < count → slice_index others (1 + at) ≡ slice_index words (1 + at))
    → ((at : ℕ) → at < count
    → slice_index others (1 + words_for candidates + at)
    ≡ slice_index words (1 + words_for candidates + at))
    → IsShownUpTo candidates others pair count
shown_again candidates words others pair count shown ins outs =
    record {
      over = shown.over;
      lower = λ at less within. shown.lower at less within
          ∙ ap (λ w. nat_eq (bit_at w (at % 64)) 1) (sym (ins (at / 64) (omega arith)));
      upper = λ at less within. shown.upper at less within
          ∙ ap (λ w. not (nat_eq (bit_at w (at % 64)) 1)) (sym (outs (at / 64) (omega arith)));
    }
