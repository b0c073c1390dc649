-- What pairs of true words enclose, and how pairs of more words narrow.
use Rattle.std.proofs.Common.{◌≡◌, ◌≢◌, ◌<◌, ◌≤◌, ◌+◌, ◌-◌, ◌/◌, ◌%◌, ℕ, Bool, true, false}
use Rattle.std.proofs.Common.{not, List, length, get_or, refl, sym, subst, ◌∙◌, ⊎_elim}
use Rattle.std.proofs.Common.{arith, eqb-true, eq-eqb, ne_eqb, true≢false, ap}
use Rattle.std.specs.Prelude.{IsTrue}
use Rattle.std.specs.Prelude.{slice_index}
use Rattle.std.specs.Int.{bit_at}
use Rattle.std.proofs.lemmas.Bool.{cases_lt}
use Rattle.std.proofs.lemmas.List.{get_or_past}
use Rattle.ground_program.specs.declared.program.Mode.{Mode}
use Rattle.ground_program.specs.declared.pair.Pair.{Pair}
use Rattle.ground_program.specs.Bounds.{IsCandidate, IsWithin}
use Rattle.normal_program.specs.declared.normal.Normal.{Normal}
use Rattle.anytime_core.specs.Bits.{HasBit, is_set, words_for, in_place, out_place, bit_of}
use Rattle.anytime_core.specs.Bits.{IsPairOf, IsPartOf}
use Rattle.anytime_core.specs.Truth.{IsConsequenceN, EnclosesN, IsTrueIn, IsTrueOut, IsTrueBit}
use Rattle.anytime_core.specs.Truth.{AreTrue}

-- a number is that of its quotient and its rest
same_number : (x y : ℕ) → x / 64 ≡ y / 64 → x % 64 ≡ y % 64 → x ≡ y
same_number x y quotient rest = omega arith

-- a candidate is the one of its place and its bit
pub same_candidate : (one two : ℕ) → 1 ≤ one → 1 ≤ two → (one - 1) / 64 ≡ (two - 1) / 64
    → bit_of one ≡ bit_of two
    → one ≡ two
same_candidate one two first second place bit =
    let e : one - 1 ≡ two - 1 = same_number (one - 1) (two - 1) place bit in omega arith

-- the in-words and the out-words are different words
pub sides_differ : (candidates one two : ℕ) → 1 ≤ one → one ≤ candidates
    → in_place one ≢ out_place candidates two
sides_differ candidates one two first last same =
    let q : ℕ = (one - 1) / 64 in
    let k : ℕ = (candidates + 63) / 64 in
    let less : q < k = omega arith in
    let e : 1 + q ≡ 1 + k + (two - 1) / 64 = same in
    absurd (omega arith)

pub set_means : (words : List ℕ) (place bit : ℕ) → IsTrue (is_set words place bit)
    → HasBit (slice_index words place) bit
set_means words place bit holds = eqb-true (bit_at (slice_index words place) bit) 1 holds

pub set_is : (words : List ℕ) (place bit : ℕ) → HasBit (slice_index words place) bit
    → is_set words place bit ≡ true
set_is words place bit has = eq-eqb (bit_at (slice_index words place) bit) 1 has

module _ (normal : Normal) (mode : Mode) where
  -- a true in-bit of a candidate says that it is a consequence
  pub in_bit_says : (cand : ℕ) → IsCandidate normal.names cand
      → IsTrueBit normal mode (in_place cand) (bit_of cand) → IsConsequenceN normal mode cand
  in_bit_says cand candidate says =
      ⊎_elim (λ flag. let e : 1 + (cand - 1) / 64 ≡ 0 = flag.0 in absurd (omega arith))
      (λ sides. ⊎_elim
      (λ (inside : IsTrueIn normal mode (in_place cand) (bit_of cand)).
      let e : 1 + (cand - 1) / 64 ≡ 1 + (inside.cand - 1) / 64 = inside.word in
      subst (IsConsequenceN normal mode)
      (same_candidate inside.cand cand inside.candidate.first candidate.first (omega arith)
      (sym inside.number)) inside.holds)
      (λ (outside : IsTrueOut normal mode (in_place cand) (bit_of cand)).
      absurd (sides_differ (length normal.names) cand outside.cand candidate.first candidate.last
      outside.word))
      sides)
      says

  -- a true out-bit says that it isn't
  pub out_bit_says : (cand : ℕ) → IsCandidate normal.names cand
      → IsTrueBit normal mode (out_place (length normal.names) cand) (bit_of cand)
      → ¬ IsConsequenceN normal mode cand
  out_bit_says cand candidate says consequence =
      ⊎_elim (λ flag. let e : 1 + (length normal.names + 63) / 64 + (cand - 1) / 64 ≡ 0 = flag.0 in
      absurd (omega arith))
      (λ sides. ⊎_elim
      (λ (inside : IsTrueIn normal mode (out_place (length normal.names) cand) (bit_of cand)).
      absurd (sides_differ (length normal.names) inside.cand cand inside.candidate.first
      inside.candidate.last (sym inside.word)))
      (λ (outside : IsTrueOut normal mode (out_place (length normal.names) cand) (bit_of cand)).
      let k : ℕ = (length normal.names + 63) / 64 in
      let e : 1 + k + (cand - 1) / 64 ≡ 1 + k + (outside.cand - 1) / 64 = outside.word in
      absurd (outside.holds (subst (IsConsequenceN normal mode)
      (same_candidate cand outside.cand candidate.first outside.candidate.first (omega arith)
      outside.number) consequence)))
      sides)
      says

  -- the pair of true words encloses the consequences
  pub encloses : (words : List ℕ) (pair : Pair) → AreTrue normal mode words
      → IsPairOf (length normal.names) words pair → EnclosesN normal mode pair
  encloses words pair trues is =
      record {
        over = is.over;
        lower = λ cand candidate has.
            in_bit_says cand candidate
            (trues (in_place cand) (bit_of cand)
            (set_means words (in_place cand) (bit_of cand)
            (subst IsTrue (is.lower cand candidate.first candidate.last) has)));
        upper = λ cand candidate consequence.
            subst IsTrue (sym (is.upper cand candidate.first candidate.last))
            (not_set (out_place (length normal.names) cand) (bit_of cand)
            (λ has. out_bit_says cand candidate
            (trues (out_place (length normal.names) cand) (bit_of cand) has) consequence));
      }
    where
      not_set : (place bit : ℕ) → ¬ HasBit (slice_index words place) bit
          → IsTrue (not (is_set words place bit))
      not_set place bit none =
          subst (λ b. IsTrue (not b)) (sym (ne_eqb (bit_at (slice_index words place) bit) 1 none))
          refl

module _ (candidates : ℕ) (words : List ℕ) (pair : Pair) (is : IsPairOf candidates words pair)
  where
    -- the pair of a row of words, place by place
    pub lower_at : (at : ℕ) → at < candidates
        → get_or pair.lower at false ≡ is_set words (1 + at / 64) (at % 64)
    lower_at at within =
        let same : at + 1 - 1 ≡ at = omega arith in
        subst (λ n. get_or pair.lower n false ≡ is_set words (1 + n / 64) (n % 64)) same
        (is.lower (at + 1) (omega arith) (omega arith))

    pub upper_at : (at : ℕ) → at < candidates
        → get_or pair.upper at false
        ≡ not (is_set words (1 + words_for candidates + at / 64) (at % 64))
    upper_at at within =
        let same : at + 1 - 1 ≡ at = omega arith in
        subst (λ n. get_or pair.upper n false
        ≡ not (is_set words (1 + words_for candidates + n / 64) (n % 64))) same
        (is.upper (at + 1) (omega arith) (omega arith))

-- the pair of more bits lies within the pair of fewer
module _ (candidates : ℕ) (fewer more : List ℕ) (wide narrow : Pair)
    (was : IsPairOf candidates fewer wide) (now : IsPairOf candidates more narrow)
    (part : IsPartOf fewer more) where
  grown : (place bit : ℕ) → is_set fewer place bit ≡ true → is_set more place bit ≡ true
  grown place bit holds = set_is more place bit (part place bit (set_means fewer place bit holds))

  -- what isn't set now wasn't set
  not_grown : (place bit : ℕ) → not (is_set more place bit) ≡ true
      → not (is_set fewer place bit) ≡ true
  not_grown place bit none = either (is_set fewer place bit) refl
    where
      either : (b : Bool) → is_set fewer place bit ≡ b → not (is_set fewer place bit) ≡ true
      either true is = absurd (true≢false
          (sym none ∙ ap not (grown place bit is)))
      either false is = ap not is

  lower_stays : (at : ℕ) → get_or wide.lower at false ≡ true → get_or narrow.lower at false ≡ true
  lower_stays at has =
      ⊎_elim
      (λ within. lower_at candidates more narrow now at within
      ∙ grown (1 + at / 64) (at % 64)
      (sym (lower_at candidates fewer wide was at within) ∙ has))
      (λ past. absurd (true≢false (sym has
      ∙ get_or_past wide.lower at false (subst (λ n. n ≤ at) (sym was.over.lower) past))))
      (cases_lt at candidates)

  upper_stays : (at : ℕ) → get_or narrow.upper at false ≡ true → get_or wide.upper at false ≡ true
  upper_stays at has =
      ⊎_elim
      (λ within. upper_at candidates fewer wide was at within
      ∙ not_grown (1 + words_for candidates + at / 64) (at % 64)
      (sym (upper_at candidates more narrow now at within) ∙ has))
      (λ past. absurd (true≢false (sym has
      ∙ get_or_past narrow.upper at false (subst (λ n. n ≤ at) (sym now.over.upper) past))))
      (cases_lt at candidates)

  pub narrows : IsWithin narrow wide
  narrows =
      record {
        lower = λ cand has. lower_stays (cand - 1) has;
        upper = λ cand has. upper_stays (cand - 1) has;
      }
