-- What a reader keeps from one read to the next.
use Rattle.std.proofs.Common.{◌≡◌, ◌≢◌, ◌<◌, ◌≤◌, ◌+◌, ◌-◌, ◌*◌, ◌/◌, ◌%◌, ◌⊎◌, ℕ, Bool, false}
use Rattle.std.proofs.Common.{true, not, List, length, get_or, set, replicate, refl, sym, ap}
use Rattle.std.proofs.Common.{subst, ◌∙◌, inl, inr, ⊎_elim, arith, length-set}
use Rattle.std.specs.Prelude.{slice_index, nat_eq}
use Rattle.std.proofs.lemmas.Nat.Bits.{bit_at-zero}
use Rattle.std.proofs.lemmas.List.{get_or-set_same, get_or-set_other, get_or-replicate}
use Rattle.std.proofs.lemmas.List.{length-replicate}
use Rattle.std.proofs.lemmas.Bool.{cases_eq, cases_lt}
use Rattle.anytime_core.specs.Bits.{words_for}
use Rattle.anytime_core.specs.Showing.{IsShown, IsShownNot}
use Rattle.anytime_core.proofs.BitLemmas.{zeros_at}
use Rattle.bounds_board.specs.Last.{Shows, says_in, says_out}

-- the word and the bit of a place
quotient_is : (at count : ℕ) → 64 * count ≤ at → at < 64 * count + 64 → at / 64 ≡ count
quotient_is at count from to = omega arith

rest_is : (at count : ℕ) → 64 * count ≤ at → at < 64 * count + 64 → at % 64 ≡ at - 64 * count
rest_is at count from to = omega arith

module _ (says : ℕ → ℕ → Bool) (words : List ℕ) (bits : List Bool) (shows : Shows says words bits)
    (word found : ℕ) where
  -- a word that is as it was is shown
  pub shown_yet : slice_index words word ≡ found → (place : ℕ) → 64 * word ≤ place
      → place < 64 * word + 64 → place < length bits
      → get_or bits place false ≡ says found (place - 64 * word)
  shown_yet same place from to within =
      shows.each place within
      ∙ ap (λ n. says (slice_index words n) (place % 64)) (quotient_is place word from to)
      ∙ ap (λ n. says n (place % 64)) same
      ∙ ap (λ n. says found n) (rest_is place word from to)

  -- after another word is written, the values are what the words say then
  pub shows_next : (new : List Bool) → word < length words → length new ≡ length bits
      → ((place : ℕ) → 64 * word ≤ place → place < 64 * word + 64 → place < length bits
      → get_or new place false ≡ says found (place - 64 * word))
      → ((place : ℕ) → (place < 64 * word) ⊎ (64 * word + 64 ≤ place)
      → get_or new place false ≡ get_or bits place false)
      → Shows says (set words word found) new
  shows_next new there same shown others =
      record {
        count = length-set words word found ∙ shows.count ∙ ap words_for (sym same);
        each = λ place within.
            let old : place < length bits = subst (λ n. place < n) same within in
            ⊎_elim
            (λ here.
            let from : 64 * word ≤ place = omega arith in
            let to : place < 64 * word + 64 = omega arith in
            shown place from to old
            ∙ ap (λ n. says found n) (sym (rest_is place word from to))
            ∙ ap (λ n. says n (place % 64)) (sym (get_or-set_same words word found 0 there))
            ∙ ap (λ n. says (slice_index (set words word found) n) (place % 64)) (sym here))
            (λ differ.
            others place (beside place differ)
            ∙ shows.each place old
            ∙ ap (λ n. says n (place % 64))
            (sym (get_or-set_other words word (place / 64) found 0 differ)))
            (cases_eq (place / 64) word);
      }
    where
      beside : (place : ℕ) → place / 64 ≢ word → (place < 64 * word) ⊎ (64 * word + 64 ≤ place)
      beside place differ =
          ⊎_elim (λ low. inl (omega arith))
          (λ high. inr (let more : word < place / 64 = omega arith in omega arith))
          (cases_lt (place / 64) word)

-- there is a word for each place
pub has_word : (says : ℕ → ℕ → Bool) (words : List ℕ) (bits : List Bool) (word : ℕ)
    → Shows says words bits → 64 * word < length bits → word < length words
has_word says words bits word shows within =
    let k : ℕ = length bits in
    let less : word < (k + 63) / 64 = omega arith in
    subst (λ n. word < n) (sym shows.count) less

-- an in-word that is as it was
pub in_yet : (words : List ℕ) (bits : List Bool) (word found : ℕ) → Shows says_in words bits
    → slice_index words word ≡ found → IsShown found (64 * word) bits bits
in_yet words bits word found shows same =
    record {
      same_length = refl;
      shown = shown_yet says_in words bits shows word found same;
      others = λ place beside. refl;
    }

-- an out-word that is as it was
pub out_yet : (words : List ℕ) (bits : List Bool) (word found : ℕ) → Shows says_out words bits
    → slice_index words word ≡ found → IsShownNot found (64 * word) bits bits
out_yet words bits word found shows same =
    record {
      same_length = refl;
      shown = shown_yet says_out words bits shows word found same;
      others = λ place beside. refl;
    }

-- another in-word
pub in_next : (words : List ℕ) (bits new : List Bool) (word found : ℕ) → Shows says_in words bits
    → word < length words → IsShown found (64 * word) bits new
    → Shows says_in (set words word found) new
in_next words bits new word found shows there is =
    shows_next says_in words bits shows word found new there is.same_length is.shown is.others

-- another out-word
pub out_next : (words : List ℕ) (bits new : List Bool) (word found : ℕ) → Shows says_out words bits
    → word < length words → IsShownNot found (64 * word) bits new
    → Shows says_out (set words word found) new
out_next words bits new word found shows there is =
    shows_next says_out words bits shows word found new there is.same_length is.shown is.others

-- words with no bit show one value everywhere
pub zeros_show : (says : ℕ → ℕ → Bool) (value : Bool) (count : ℕ)
    → ((bit : ℕ) → value ≡ says 0 bit)
    → Shows says (replicate (words_for count) 0) (replicate count value)
zeros_show says value count none =
    record {
      count = length-replicate {A = ℕ} (words_for count) 0
          ∙ ap words_for (sym (length-replicate {A = Bool} count value));
      each = λ place within.
          get_or-replicate count place value false
          (subst (λ n. place < n) (length-replicate {A = Bool} count value) within)
          ∙ none (place % 64)
          ∙ ap (λ n. says n (place % 64)) (sym (zeros_at (words_for count) (place / 64)));
    }

pub zero_in : (bit : ℕ) → false ≡ says_in 0 bit
zero_in bit = sym (ap (λ n. nat_eq n 1) (bit_at-zero bit))

pub zero_out : (bit : ℕ) → true ≡ says_out 0 bit
zero_out bit = sym (ap (λ n. not (nat_eq n 1)) (bit_at-zero bit))
