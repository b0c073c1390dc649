-- A read of the board, word by word.
use Rattle.std.proofs.Common.{◌≡◌, ◌<◌, ◌≤◌, ◌+◌, ◌-◌, ◌*◌, ℕ, length, sym}
use Rattle.std.proofs.Common.{subst}
use Rattle.std.proofs.Common.{◌∙◌, ⊎_elim, arith, le_refl, lt_of_lt_of_le}
use Rattle.std.specs.Prelude.{slice_index}
use Rattle.std.proofs.lemmas.Bool.{cases_eq, cases_lt}
use Rattle.ground_program.specs.declared.pair.Pair.{Pair}
use Rattle.ground_program.specs.Bounds.{IsPairOver}
use Rattle.normal_program.specs.declared.normal.Normal.{Normal}
use Rattle.anytime_core.specs.declared.event.Event.{Event}
use Rattle.anytime_core.specs.Bits.{IsPairOf, words_for, all_words}
use Rattle.anytime_core.specs.Showing.{IsShown, IsShownNot, IsShownUpTo}
use Rattle.anytime_core.specs.Laws.{KnowsMore}
use Rattle.anytime_core.specs.Truth.{EnclosesN}
use Rattle.anytime_core.proofs.ShowingLemmas.{shown_start, shown_next, shown_again, shown_end}
use Rattle.anytime_core.proofs.PairLemmas.{encloses, narrows}
use Rattle.bounds_board.specs.declared.view.View.{View}
use Rattle.bounds_board.specs.declared.board.Board.{Board}
use Rattle.bounds_board.specs.Rule.{IsView, Place}
use Rattle.bounds_board.specs.Plays.{Met}
use Rattle.bounds_board.specs.Board.{IsSeatOf, normal_of, mode_of, seen_of}
use Rattle.bounds_board.specs.Reads.{IsMetSince, HasMetAll, LiesWithin}
use Rattle.bounds_board.proofs.ViewLemmas.{knows_more, knows_trans, true_row, sees_word}
use Rattle.bounds_board.proofs.ViewLemmas.{sees_others}
use Rattle.bounds_board.proofs.ViewLemmas.{met_now, met_grows, steps_rise, normal_stays}

-- so many in-words and out-words were read since, and are in the pair
pub record HasRead (board : Board) (first : View) (seat : Place) (pair : Pair) (count : ℕ) : Type 0
  where
    pub of_board : IsSeatOf board seat
    pub viewed : IsView seat.view
    pub more : KnowsMore first.actor seat.view.actor
    pub steps : seat.view.actor.steps ≡ first.actor.steps + 1 + count + count
    pub flags : IsMetSince first seat.view 0
    pub ins : (at : ℕ) → at < count → IsMetSince first seat.view (1 + at)
    pub outs : (at : ℕ) → at < count
        → IsMetSince first seat.view (1 + words_for (length (normal_of board).names) + at)
    pub shown : IsShownUpTo (length (normal_of board).names) (seen_of seat) pair count

-- a word that was met since is so after a further step
met_later : (first old new : View) (event : Event) (place word other : ℕ)
    → Met old new event place word → IsView old → IsMetSince first old other
    → IsMetSince first new other
met_later first old new event place word other met is since =
    lt_of_lt_of_le since (met_grows old new event place word met is other)

-- the word of a step was met since
met_here : (first old new : View) (event : Event) (place word : ℕ) → Met old new event place word
    → IsView old → place < all_words (length old.normal.names)
    → first.actor.steps ≤ old.actor.steps → IsMetSince first new place
met_here first old new event place word met is within later =
    subst (λ n. first.actor.steps < n) (sym (met_now old new event place word met is within))
    (omega arith)

-- the first step of a read
pub read_start : (board : Board) (old new : Place) (pair : Pair) (event : Event) (word : ℕ)
    → Met old.view new.view event 0 word → IsSeatOf board old → IsSeatOf board new
    → IsView old.view → IsView new.view
    → IsPairOver (length (normal_of board).names) pair → HasRead board old.view new pair 0
read_start board old new pair event word met was now is will over =
    record {
      of_board = now;
      viewed = will;
      more = knows_more old.view new.view event 0 word met;
      steps = steps_rise old.view new.view event 0 word met ∙ plain old.view.actor.steps;
      flags = met_here old.view old.view new.view event 0 word met is (omega arith)
          (le_refl old.view.actor.steps);
      ins = λ at none. absurd (omega arith);
      outs = λ at none. absurd (omega arith);
      shown = shown_start (length (normal_of board).names) (seen_of new) pair over;
    }
  where
    plain : (n : ℕ) → n + 1 ≡ n + 1 + 0 + 0
    plain n = omega arith

-- one more in-word and one more out-word
module _ (board : Board) (first : View) (old mid new : Place) (pair after : Pair) (count : ℕ)
    (ins_event outs_event : Event) (inside outside : ℕ)
    (before : HasRead board first old pair count)
    (within : count < words_for (length (normal_of board).names))
    (one : Met old.view mid.view ins_event (1 + count) inside)
    (two : Met mid.view new.view outs_event
    (1 + words_for (length (normal_of board).names) + count) outside)
    (is_mid : IsView mid.view) (is_new : IsView new.view) (of_new : IsSeatOf board new)
    (lower : IsShown inside (64 * count) pair.lower after.lower)
    (upper : IsShownNot outside (64 * count) pair.upper after.upper) where
  abbrev side : ℕ
  side = words_for (length (normal_of board).names)

  in_row : 1 + count < all_words (length old.view.normal.names)
  in_row = subst (λ (n : Normal). 1 + count < all_words (length n.names))
      (sym before.of_board.about)
      (let less : count < side = within in omega arith)

  out_row : 1 + side + count < all_words (length mid.view.normal.names)
  out_row = subst (λ (n : Normal). 1 + side + count < all_words (length n.names))
      (sym (normal_stays old.view mid.view ins_event (1 + count) inside one
      ∙ before.of_board.about))
      (let less : count < side = within in omega arith)

  -- the words read before are as they were
  same_ins : (at : ℕ) → at < count
      → slice_index (seen_of new) (1 + at) ≡ slice_index (seen_of old) (1 + at)
  same_ins at less =
      sees_others mid.view new.view outs_event (1 + side + count) outside two (1 + at)
      (λ same. let low : count < side = within in absurd (omega arith))
      ∙ sees_others old.view mid.view ins_event (1 + count) inside one (1 + at)
      (λ same. absurd (omega arith))

  same_outs : (at : ℕ) → at < count
      → slice_index (seen_of new) (1 + side + at) ≡ slice_index (seen_of old) (1 + side + at)
  same_outs at less =
      sees_others mid.view new.view outs_event (1 + side + count) outside two (1 + side + at)
      (λ same. let k : ℕ = side in let e : 1 + k + at ≡ 1 + k + count = same in
      absurd (omega arith))
      ∙ sees_others old.view mid.view ins_event (1 + count) inside one (1 + side + at)
      (λ same. let k : ℕ = side in let low : count < k = within in
      let e : 1 + k + at ≡ 1 + count = same in absurd (omega arith))

  in_seen : slice_index (seen_of new) (1 + count) ≡ inside
  in_seen =
      sees_others mid.view new.view outs_event (1 + side + count) outside two (1 + count)
      (λ same. let k : ℕ = side in let low : count < k = within in
      let e : 1 + count ≡ 1 + k + count = same in absurd (omega arith))
      ∙ sees_word old.view mid.view ins_event (1 + count) inside one before.viewed in_row

  out_seen : slice_index (seen_of new) (1 + side + count) ≡ outside
  out_seen =
      sees_word mid.view new.view outs_event (1 + side + count) outside two is_mid out_row

  later_than : first.actor.steps ≤ old.view.actor.steps
  later_than = let e : old.view.actor.steps ≡ first.actor.steps + 1 + count + count =
      before.steps in omega arith

  mid_later : first.actor.steps ≤ mid.view.actor.steps
  mid_later =
      let e : mid.view.actor.steps ≡ old.view.actor.steps + 1 =
      steps_rise old.view mid.view ins_event (1 + count) inside one in
      let low : first.actor.steps ≤ old.view.actor.steps = later_than in omega arith

  stays : (other : ℕ) → IsMetSince first old.view other → IsMetSince first new.view other
  stays other since =
      met_later first mid.view new.view outs_event (1 + side + count) outside other two is_mid
      (met_later first old.view mid.view ins_event (1 + count) inside other one before.viewed since)

  in_met : IsMetSince first new.view (1 + count)
  in_met =
      met_later first mid.view new.view outs_event (1 + side + count) outside (1 + count) two is_mid
      (met_here first old.view mid.view ins_event (1 + count) inside one before.viewed in_row
      later_than)

  out_met : IsMetSince first new.view (1 + side + count)
  out_met =
      met_here first mid.view new.view outs_event (1 + side + count) outside two is_mid out_row
      mid_later

  pub read_next : HasRead board first new after (count + 1)
  read_next =
      record {
        of_board = of_new;
        viewed = is_new;
        more = knows_trans first.actor mid.view.actor new.view.actor
            (knows_trans first.actor old.view.actor mid.view.actor before.more
            (knows_more old.view mid.view ins_event (1 + count) inside one))
            (knows_more mid.view new.view outs_event (1 + side + count) outside two);
        steps =
            let a : old.view.actor.steps ≡ first.actor.steps + 1 + count + count =
            before.steps in
            let b : mid.view.actor.steps ≡ old.view.actor.steps + 1 =
            steps_rise old.view mid.view ins_event (1 + count) inside one in
            let d : new.view.actor.steps ≡ mid.view.actor.steps + 1 =
            steps_rise mid.view new.view outs_event (1 + side + count) outside two in
            omega arith;
        flags = stays 0 before.flags;
        ins = λ at less. ⊎_elim
            (λ early. stays (1 + at) (before.ins at early))
            (λ late. let same : at ≡ count = omega arith in
            subst (λ n. IsMetSince first new.view (1 + n)) (sym same) in_met)
            (cases_lt at count);
        outs = λ at less. ⊎_elim
            (λ early. stays (1 + side + at) (before.outs at early))
            (λ late. let same : at ≡ count = omega arith in
            subst (λ n. IsMetSince first new.view (1 + side + n)) (sym same) out_met)
            (cases_lt at count);
        shown = shown_next (length (normal_of board).names) (seen_of new) pair after count
            (shown_again (length (normal_of board).names) (seen_of old) (seen_of new) pair count
            before.shown same_ins same_outs)
            (subst (λ w. IsShown w (64 * count) pair.lower after.lower) (sym in_seen) lower)
            (subst (λ w. IsShownNot w (64 * count) pair.upper after.upper) (sym out_seen) upper);
      }

-- all words were read
module _ (board : Board) (first : View) (seat : Place) (pair : Pair)
    (all : HasRead board first seat pair (words_for (length (normal_of board).names))) where
  abbrev whole : ℕ
  whole = words_for (length (normal_of board).names)

  pub read_met : HasMetAll (normal_of board) first seat.view
  read_met =
      record {
        each = λ place less. ⊎_elim
            (λ zero_is. subst (λ n. IsMetSince first seat.view n) (sym zero_is) all.flags)
            (λ other. ⊎_elim
            (λ low.
            let at : ℕ = place - 1 in
            let is : 1 + at ≡ place = omega arith in
            let few : at < whole = omega arith in
            subst (λ n. IsMetSince first seat.view n) is (all.ins at few))
            (λ high.
            let k : ℕ = whole in
            let at : ℕ = place - (1 + k) in
            let is : 1 + k + at ≡ place = omega arith in
            let few : at < k = omega arith in
            subst (λ n. IsMetSince first seat.view n) is (all.outs at few))
            (cases_lt place (1 + whole)))
            (cases_eq place 0);
        once = all.steps ∙ sums first.actor.steps whole;
      }
    where
      sums : (n k : ℕ) → n + 1 + k + k ≡ n + (1 + k + k)
      sums n k = omega arith

  pub read_pair : IsPairOf (length (normal_of board).names) (seen_of seat) pair
  read_pair = shown_end (length (normal_of board).names) (seen_of seat) pair all.shown

  pub read_encloses : EnclosesN (normal_of board) (mode_of board) pair
  read_encloses =
      encloses (normal_of board) (mode_of board) (seen_of seat) pair
      (true_row (normal_of board) seat.view.normal (mode_of board) seat.view.mode (seen_of seat)
      all.of_board.about all.of_board.asked all.viewed.trues)
      read_pair

  pub read_within : LiesWithin (normal_of board) first.actor.seen pair
  read_within before is =
      narrows (length (normal_of board).names) first.actor.seen (seen_of seat) before pair is
      read_pair all.more.words
