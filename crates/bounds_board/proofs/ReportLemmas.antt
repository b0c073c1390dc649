-- What a seat holds after reports.
use Rattle.std.proofs.Common.{◌≡◌, ◌<◌, ◌≤◌, ◌+◌, ◌-◌, ◌*◌, ◌/◌, ◌%◌, ◌^◌, ℕ, Bool, true}
use Rattle.std.proofs.Common.{false, List, length, refl, sym, ap, subst, ◌∙◌, ⊎_elim, arith}
use Rattle.std.specs.Prelude.{bit_or, slice_index, if◌then◌else◌}
use Rattle.std.specs.Int.{bit_at}
use Rattle.std.proofs.lemmas.Bool.{cases_eq, cases_lt}
use Rattle.std.proofs.Common.{mod-eq_of_lt}
use Rattle.std.proofs.Math.Pow.{pow-lt}
use Rattle.std.proofs.lemmas.Nat.Bits.{bit_at-pow_same, bit_at-pow_other}
use Rattle.ground_program.specs.declared.program.Mode.{Mode}
use Rattle.ground_program.specs.declared.program.Mode.TheVariants.{Cautious, Brave}
use Rattle.ground_program.specs.declared.program.Named.{Named}
use Rattle.ground_program.specs.Bounds.{IsCandidate, Shows}
use Rattle.normal_program.specs.declared.normal.Normal.{Normal}
use Rattle.normal_program.specs.Normal.{IsAnswerSetN}
use Rattle.anytime_core.specs.declared.event.Event.{Event}
use Rattle.anytime_core.specs.Bits.{HasBit, words_for, all_words, in_place, out_place, bit_of}
use Rattle.anytime_core.specs.Truth.{IsTrueIn, IsTrueOut, IsConsequenceN}
use Rattle.anytime_core.specs.Machine.{flag_of}
use Rattle.anytime_core.specs.Laws.{KnowsMore}
use Rattle.anytime_core.proofs.BitLemmas.{bit_or_right, not_both}
use Rattle.bounds_board.specs.declared.view.View.{View}
use Rattle.bounds_board.specs.declared.board.Board.{Board}
use Rattle.bounds_board.specs.Rule.{IsView, Place}
use Rattle.bounds_board.specs.Plays.{Met}
use Rattle.bounds_board.specs.Board.{IsSeatOf, normal_of, mode_of, seen_of}
use Rattle.bounds_board.specs.Reports.{HoldsState, HoldsShown}
use Rattle.bounds_board.specs.Reports.{IsMaskOf}
use Rattle.bounds_board.proofs.ViewLemmas.{knows_more, knows_trans, sees_word}

-- the only bit of a power of two
pub power_bit : (k bit : ℕ) → HasBit (2 ^ k) bit → bit ≡ k
power_bit k bit has =
    ⊎_elim (λ same. same)
    (λ other. absurd (not_both (bit_at (2 ^ k) bit) (bit_at-pow_other k bit other) has))
    (cases_eq bit k)

-- a shift by less than 64 places loses nothing
pub power_fits : (k : ℕ) → k < 64 → 1 * 2 ^ k % 18446744073709551616 ≡ 2 ^ k
power_fits k few =
    ap (λ n. n % 18446744073709551616) (one_times (2 ^ k))
    ∙ mod-eq_of_lt (pow-lt {i = k} {j = 64} few)
  where
    one_times : (n : ℕ) → 1 * n ≡ n
    one_times n = omega arith

-- the mask of a candidate has its bit alone
pub mask_is : (cand : ℕ) → 1 * 2 ^ bit_of cand % 18446744073709551616 ≡ 2 ^ bit_of cand
mask_is cand = let few : bit_of cand < 64 = omega arith in power_fits (bit_of cand) few

-- the mask of one candidate is true where the candidate is a consequence
pub one_in : (normal : Normal) (mode : Mode) (cand : ℕ) → IsCandidate normal.names cand
    → IsConsequenceN normal mode cand → (bit : ℕ) → HasBit (2 ^ bit_of cand) bit
    → IsTrueIn normal mode (in_place cand) bit
one_in normal mode cand candidate holds bit has =
    let number = power_bit (bit_of cand) bit has in
    record { cand = cand; candidate = candidate; word = refl; number = number; holds = holds }

pub one_out : (normal : Normal) (mode : Mode) (cand : ℕ) → IsCandidate normal.names cand
    → ¬ IsConsequenceN normal mode cand → (bit : ℕ) → HasBit (2 ^ bit_of cand) bit
    → IsTrueOut normal mode (out_place (length normal.names) cand) bit
one_out normal mode cand candidate holds bit has =
    let number = power_bit (bit_of cand) bit has in
    record { cand = cand; candidate = candidate; word = refl; number = number; holds = holds }

-- the words of a candidate are words of the board
word_exists : (names : List Named) (cand : ℕ) → IsCandidate names cand
    → (cand - 1) / 64 < words_for (length names)
word_exists names cand candidate = omega (arith, candidate.first, candidate.last)

pub in_within : (names : List Named) (cand : ℕ) → IsCandidate names cand
    → in_place cand < all_words (length names)
in_within names cand candidate =
    let side : ℕ = words_for (length names) in
    let less : (cand - 1) / 64 < side = word_exists names cand candidate in omega arith

pub out_within : (names : List Named) (cand : ℕ) → IsCandidate names cand
    → out_place (length names) cand < all_words (length names)
out_within names cand candidate =
    let side : ℕ = words_for (length names) in
    let less : (cand - 1) / 64 < side = word_exists names cand candidate in omega arith

-- after a report the seat has seen the bits of the mask
pub holds_mask : (old new : View) (event : Event) (place found mask bit : ℕ)
    → Met old new event place (bit_or found mask) → IsView old
    → place < all_words (length old.normal.names) → HasBit mask bit
    → HasBit (slice_index new.actor.seen place) bit
holds_mask old new event place found mask bit met is within has =
    subst (λ n. HasBit n bit)
    (sym (sees_word old new event place (bit_or found mask) met is within))
    (bit_or_right found mask bit has)

-- after a report of one candidate the seat has seen its bit
pub holds_candidate : (normal : Normal) (old new : View) (event : Event) (place found cand : ℕ)
    → Met old new event place (bit_or found (1 * 2 ^ bit_of cand % 18446744073709551616))
    → IsView old → old.normal ≡ normal → place < all_words (length normal.names)
    → HasBit (slice_index new.actor.seen place) (bit_of cand)
holds_candidate normal old new event place found cand met is about within =
    holds_mask old new event place found (1 * 2 ^ bit_of cand % 18446744073709551616) (bit_of cand)
    met is (subst (λ (n : Normal). place < all_words (length n.names)) (sym about) within)
    (subst (λ n. HasBit n (bit_of cand)) (sym (mask_is cand)) (bit_at-pow_same (bit_of cand)))

-- the flag of what was reported
pub flag_bit : (coherent : Bool) → HasBit (flag_of coherent) (if coherent then 0 else 1)
flag_bit true = bit_at-pow_same 0
flag_bit false = bit_at-pow_same 1

-- the candidate whose bit a word has, and its places
record OfBit (names word bit cand : ℕ) : Type 0 where
  pub first : 1 ≤ cand
  pub last : cand ≤ names
  pub word_is : word ≡ (cand - 1) / 64
  pub bit_is : bit ≡ (cand - 1) % 64

of_bit : (names word bit : ℕ) → bit < 64 → 64 * word + bit < names
    → OfBit names word bit (64 * word + bit + 1)
of_bit names word bit few inside =
    record {
      first = omega arith;
      last = omega arith;
      word_is = omega arith;
      bit_is = omega arith;
    }

-- a mask of shown candidates is true: out in cautious mode, in in brave mode
module _ (normal : Normal) (members : List Bool) (word mask : ℕ)
    (answer : IsAnswerSetN normal members) where
  pub mask_out : IsMaskOf normal Cautious members (64 * word) mask → (bit : ℕ) → HasBit mask bit
      → IsTrueOut normal Cautious (1 + words_for (length normal.names) + word) bit
  mask_out is bit has =
      let s = (is bit).0 has in
      let of = of_bit (length normal.names) word bit s.few s.candidate in
      record {
        cand = 64 * word + bit + 1;
        candidate = record { first = of.first; last = of.last };
        word = ap (λ n. 1 + words_for (length normal.names) + n) of.word_is;
        number = of.bit_is;
        holds = λ consequence. s.shown (consequence members answer);
      }

  pub mask_in : IsMaskOf normal Brave members (64 * word) mask → (bit : ℕ) → HasBit mask bit
      → IsTrueIn normal Brave (1 + word) bit
  mask_in is bit has =
      let s = (is bit).0 has in
      let of = of_bit (length normal.names) word bit s.few s.candidate in
      record {
        cand = 64 * word + bit + 1;
        candidate = record { first = of.first; last = of.last };
        word = ap (λ n. 1 + n) of.word_is;
        number = of.bit_is;
        holds = (members, answer, s.shown);
      }

-- the bit of a shown candidate is in the mask of its word
pub mask_has : (normal : Normal) (mode : Mode) (members : List Bool) (cand mask : ℕ)
    → IsCandidate normal.names cand → Shows normal.names mode members cand
    → IsMaskOf normal mode members (64 * ((cand - 1) / 64)) mask → HasBit mask (bit_of cand)
mask_has normal mode members cand mask candidate shows is =
    let first : 1 ≤ cand = candidate.first in
    let last : cand ≤ length normal.names = candidate.last in
    let same : 64 * ((cand - 1) / 64) + (cand - 1) % 64 + 1 ≡ cand = omega arith in
    (is (bit_of cand)).1
    record {
      few = omega arith;
      candidate = omega arith;
      shown = subst (λ n. Shows normal.names mode members n) (sym same) shows;
    }

-- the candidates of so many words that a set shows were reported since
pub record HasReported (board : Board) (members : List Bool) (first : View) (seat : Place)
    (count : ℕ) : Type 0 where
  pub of_board : IsSeatOf board seat
  pub more : KnowsMore first.actor seat.view.actor
  pub flag : HoldsState (seen_of seat) true
  pub shown : (cand : ℕ) → IsCandidate (normal_of board).names cand → (cand - 1) / 64 < count
      → Shows (normal_of board).names (mode_of board) members cand
      → HoldsShown (normal_of board) (mode_of board) (seen_of seat) cand

pub reported_start : (board : Board) (members : List Bool) (old new : Place) (event : Event)
    (found : ℕ)
    → Met old.view new.view event 0 (bit_or found (flag_of true)) → IsSeatOf board new
    → IsView old.view → HasReported board members old.view new 0
reported_start board members old new event found met of_new is =
    record {
      of_board = of_new;
      more = knows_more old.view new.view event 0 (bit_or found (flag_of true)) met;
      flag = holds_mask old.view new.view event 0 found (flag_of true) 0 met is (omega arith)
          (flag_bit true);
      shown = λ cand candidate none shows. absurd (omega arith);
    }

-- what a seat holds of a candidate it holds when it knows more
holds_later : (normal : Normal) (mode : Mode) (one other : View) (cand : ℕ)
    → KnowsMore one.actor other.actor → HoldsShown normal mode one.actor.seen cand
    → HoldsShown normal mode other.actor.seen cand
holds_later normal Cautious one other cand more holds =
    more.words (out_place (length normal.names) cand) (bit_of cand) holds
holds_later normal Brave one other cand more holds =
    more.words (in_place cand) (bit_of cand) holds

-- the place of a word of the proved side of a mode
abbrev pub side_place : Normal → Mode → ℕ → ℕ
side_place normal Cautious word = 1 + words_for (length normal.names) + word
side_place normal Brave word = 1 + word

-- a bit of that word is what the seat is to hold
holds_bit : (normal : Normal) (mode : Mode) (seen : List ℕ) (cand : ℕ)
    → HasBit (slice_index seen (side_place normal mode ((cand - 1) / 64))) (bit_of cand)
    → HoldsShown normal mode seen cand
holds_bit normal Cautious seen cand has = has
holds_bit normal Brave seen cand has = has

side_within : (normal : Normal) (mode : Mode) (word : ℕ) → word < words_for (length normal.names)
    → side_place normal mode word < all_words (length normal.names)
side_within normal Cautious word less =
    let k : ℕ = words_for (length normal.names) in let few : word < k = less in omega arith
side_within normal Brave word less =
    let k : ℕ = words_for (length normal.names) in let few : word < k = less in omega arith

pub reported_next : (board : Board) (members : List Bool) (first : View) (old new : Place)
    (event : Event) (found mask count : ℕ) → HasReported board members first old count
    → count < words_for (length (normal_of board).names)
    → IsMaskOf (normal_of board) (mode_of board) members (64 * count) mask
    → Met old.view new.view event (side_place (normal_of board) (mode_of board) count)
    (bit_or found mask)
    → IsSeatOf board new → IsView old.view → HasReported board members first new (count + 1)
reported_next board members first old new event found mask count before less is met of_new viewed =
    record {
      of_board = of_new;
      more = knows_trans first.actor old.view.actor new.view.actor before.more more;
      flag = more.words 0 0 before.flag;
      shown = λ cand candidate few shows. ⊎_elim
          (λ early. holds_later (normal_of board) (mode_of board) old.view new.view cand more
          (before.shown cand candidate early shows))
          (λ late.
          let same : (cand - 1) / 64 ≡ count = omega arith in
          holds_bit (normal_of board) (mode_of board) (seen_of new) cand
          (subst (λ n. HasBit
          (slice_index (seen_of new) (side_place (normal_of board) (mode_of board) n))
          (bit_of cand)) (sym same)
          (holds_mask old.view new.view event place found mask (bit_of cand) met viewed within
          (mask_has (normal_of board) (mode_of board) members cand mask candidate shows
          (subst (λ n. IsMaskOf (normal_of board) (mode_of board) members (64 * n) mask) (sym same)
          is)))))
          (cases_lt ((cand - 1) / 64) count);
    }
  where
    place : ℕ
    place = side_place (normal_of board) (mode_of board) count

    more : KnowsMore old.view.actor new.view.actor
    more = knows_more old.view new.view event place (bit_or found mask) met

    within : place < all_words (length old.view.normal.names)
    within = subst (λ (n : Normal). place < all_words (length n.names))
        (sym before.of_board.about)
        (side_within (normal_of board) (mode_of board) count less)
