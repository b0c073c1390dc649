-- What stays of a view after a step.
use Rattle.std.proofs.Common.{◌≡◌, ◌≢◌, ◌<◌, ◌≤◌, ◌+◌, ℕ, List, length, set, replicate}
use Rattle.std.proofs.Common.{[], ◌∷◌, refl, sym, ap, subst, ◌∙◌, ⊎_elim, arith}
use Rattle.std.proofs.Common.{length-set}
use Rattle.std.proofs.Common.{le_refl, le_trans, zero-le}
use Rattle.std.specs.Prelude.{slice_index}
use Rattle.std.proofs.lemmas.Bool.{cases_eq, cases_lt}
use Rattle.std.proofs.lemmas.List.{get_or-set_same, get_or-set_other, set_past, length-replicate}
use Rattle.ground_program.specs.declared.program.Mode.{Mode}
use Rattle.normal_program.specs.declared.normal.Normal.{Normal}
use Rattle.anytime_core.specs.declared.event.Event.{Event}
use Rattle.anytime_core.specs.declared.actor.Actor.{Actor}
use Rattle.anytime_core.specs.Bits.{HasBit, all_words, both}
use Rattle.anytime_core.specs.Truth.{IsTrueWord, AreTrue}
use Rattle.anytime_core.specs.Laws.{KnowsMore}
use Rattle.anytime_core.proofs.BitLemmas.{part_trans, part_grows, length-both, zeros_at}
use Rattle.anytime_core.proofs.BitLemmas.{both_at, bit_from_or}
use Rattle.anytime_core.proofs.TruthLemmas.{true_set}
use Rattle.bounds_board.specs.declared.view.View.{View}
use Rattle.bounds_board.specs.Rule.{IsView}
use Rattle.bounds_board.specs.Plays.{met_view, Met, teller, note_of, learner}

-- the greatest step of a row in which one word was met
before_set : (met : List ℕ) (place steps : ℕ) → ((at : ℕ) → slice_index met at ≤ steps) → (at : ℕ)
    → slice_index (set met place (steps + 1)) at ≤ steps + 1
before_set met place steps before at =
    ⊎_elim
    (λ same. ⊎_elim
    (λ within. subst (λ p. slice_index (set met place (steps + 1)) p ≤ steps + 1) (sym same)
    (subst (λ n. n ≤ steps + 1) (sym (get_or-set_same met place (steps + 1) 0 within))
    (le_refl (steps + 1))))
    (λ past. subst (λ xs. slice_index xs at ≤ steps + 1)
    (sym (set_past met place (steps + 1) past)) (later (slice_index met at) (before at)))
    (cases_lt place (length met)))
    (λ differ. subst (λ n. n ≤ steps + 1)
    (sym (get_or-set_other met place at (steps + 1) 0 differ))
    (later (slice_index met at) (before at)))
    (cases_eq at place)
  where
    later : (n : ℕ) → n ≤ steps → n ≤ steps + 1
    later n less = omega arith

-- a view that met a word is one
met_is : (old : View) (event : Event) (place word : ℕ) → IsView old
    → IsTrueWord old.normal old.mode place word → IsView (met_view old event place word)
met_is old event place word is trues =
    record {
      is_live = is.is_live;
      seen_length = length-set old.actor.seen place word ∙ is.seen_length;
      met_length = length-set old.actor.met place (old.actor.steps + 1) ∙ is.met_length;
      trues = true_set old.normal old.mode old.actor.seen place word is.trues trues;
      before = before_set old.actor.met place old.actor.steps is.before;
    }

module _ (old new : View) (event : Event) (place word : ℕ) (met : Met old new event place word)
  where
    pub view_stays : IsView old → IsView new
    view_stays is = subst IsView (sym met.view) (met_is old event place word is met.trues)

    pub normal_stays : new.normal ≡ old.normal
    normal_stays = ap (λ (v : View). v.normal) met.view

    pub mode_stays : new.mode ≡ old.mode
    mode_stays = ap (λ (v : View). v.mode) met.view

    pub steps_rise : new.actor.steps ≡ old.actor.steps + 1
    steps_rise = ap (λ (v : View). v.actor.steps) met.view

    pub knows_more : KnowsMore old.actor new.actor
    knows_more =
        subst (λ (v : View). KnowsMore old.actor v.actor) (sym met.view)
        record {
          words = part_grows old.actor.seen place word met.more;
          log = le_refl old.actor.places;
        }

    -- the seat has seen the word
    pub sees_word : IsView old → place < all_words (length old.normal.names)
        → slice_index new.actor.seen place ≡ word
    sees_word is within =
        ap (λ (v : View). slice_index v.actor.seen place) met.view
        ∙ get_or-set_same old.actor.seen place word 0
        (subst (λ n. place < n) (sym is.seen_length) within)

    -- and the other words as before
    pub sees_others : (other : ℕ) → other ≢ place
        → slice_index new.actor.seen other ≡ slice_index old.actor.seen other
    sees_others other differ =
        ap (λ (v : View). slice_index v.actor.seen other) met.view
        ∙ get_or-set_other old.actor.seen place other word 0 differ

    -- the word was met by the last step
    pub met_now : IsView old → place < all_words (length old.normal.names)
        → slice_index new.actor.met place ≡ old.actor.steps + 1
    met_now is within =
        ap (λ (v : View). slice_index v.actor.met place) met.view
        ∙ get_or-set_same old.actor.met place (old.actor.steps + 1) 0
        (subst (λ n. place < n) (sym is.met_length) within)

    pub met_others : (other : ℕ) → other ≢ place
        → slice_index new.actor.met other ≡ slice_index old.actor.met other
    met_others other differ =
        ap (λ (v : View). slice_index v.actor.met other) met.view
        ∙ get_or-set_other old.actor.met place other (old.actor.steps + 1) 0 differ

    -- no word was met earlier than before
    pub met_grows : IsView old → (other : ℕ)
        → slice_index old.actor.met other ≤ slice_index new.actor.met other
    met_grows is other =
        ⊎_elim
        (λ same. ⊎_elim
        (λ within. subst (λ p. slice_index old.actor.met p ≤ slice_index new.actor.met p) (sym same)
        (subst (λ n. slice_index old.actor.met place ≤ n) (sym (now within))
        (less (slice_index old.actor.met place) old.actor.steps (is.before place))))
        (λ past. subst (λ n. slice_index old.actor.met other ≤ n)
        (sym (ap (λ (v : View). slice_index v.actor.met other) met.view
        ∙ ap (λ xs. slice_index xs other)
        (set_past old.actor.met place (old.actor.steps + 1) past)))
        (le_refl (slice_index old.actor.met other)))
        (cases_lt place (length old.actor.met)))
        (λ differ. subst (λ n. slice_index old.actor.met other ≤ n)
        (sym (met_others other differ)) (le_refl (slice_index old.actor.met other)))
        (cases_eq other place)
      where
        less : (n steps : ℕ) → n ≤ steps → n ≤ steps + 1
        less n steps few = omega arith

        now : place < length old.actor.met
            → slice_index new.actor.met place ≡ old.actor.steps + 1
        now within = ap (λ (v : View). slice_index v.actor.met place) met.view
            ∙ get_or-set_same old.actor.met place (old.actor.steps + 1) 0 within

pub knows_trans : (one two three : Actor) → KnowsMore one two → KnowsMore two three
    → KnowsMore one three
knows_trans one two three first second =
    record {
      words = part_trans one.seen two.seen three.seen first.words second.words;
      log = le_trans first.log second.log;
    }

-- a newcomer that was told has seen just what the other has
pub both_zeros : (words : List ℕ) → both (replicate (length words) 0) words ≡ words
both_zeros [] = refl
both_zeros (x ∷ xs) = ap (λ ys. x ∷ ys) (both_zeros xs)

pub teller_is : (view : View) → IsView view → IsView (teller view)
teller_is view is =
    record {
      is_live = is.is_live;
      seen_length = is.seen_length;
      met_length = is.met_length;
      trues = is.trues;
      before = λ place. later (slice_index view.actor.met place) (is.before place);
    }
  where
    later : (n : ℕ) → n ≤ view.actor.steps → n ≤ view.actor.steps + 1
    later n less = omega arith

pub note_is : (view : View) → IsView view → IsView (note_of view)
note_is view is =
    record {
      is_live = is.is_live;
      seen_length = ap (λ xs. length xs) same ∙ is.seen_length;
      met_length = length-replicate {A = ℕ} count 0 ∙ is.seen_length;
      trues = subst (λ xs. AreTrue view.normal view.mode xs) (sym same) is.trues;
      before = λ place. subst (λ n. n ≤ 0) (sym (zeros_at count place)) zero-le;
    }
  where
    count : ℕ
    count = length view.actor.seen

    same : both (replicate count 0) view.actor.seen ≡ view.actor.seen
    same = both_zeros view.actor.seen

pub learner_is : (view other : View) → IsView view → IsView other → view.normal ≡ other.normal
    → view.mode ≡ other.mode → IsView (learner view other)
learner_is view other is theirs normal mode =
    record {
      is_live = is.is_live;
      seen_length = length-both view.actor.seen other.actor.seen
          (is.seen_length ∙ ap (λ (n : Normal). all_words (length n.names)) normal
          ∙ sym theirs.seen_length)
          ∙ is.seen_length;
      met_length = is.met_length;
      trues = λ place bit has. ⊎_elim (is.trues place bit) (others place bit)
          (bit_from_or (slice_index view.actor.seen place) (slice_index other.actor.seen place) bit
          (subst (λ n. HasBit n bit) (both_at view.actor.seen other.actor.seen place) has));
      before = λ place. later (slice_index view.actor.met place) (is.before place);
    }
  where
    later : (n : ℕ) → n ≤ view.actor.steps → n ≤ view.actor.steps + 1
    later n less = omega arith

    others : AreTrue view.normal view.mode other.actor.seen
    others =
        subst (λ (m : Mode). AreTrue view.normal m other.actor.seen) (sym mode)
        (subst (λ (n : Normal). AreTrue n other.mode other.actor.seen) (sym normal) theirs.trues)

-- words that are true of one run are true of the same run
pub true_row : (normal same : Normal) (mode other : Mode) (words : List ℕ) → same ≡ normal
    → other ≡ mode → AreTrue same other words → AreTrue normal mode words
true_row normal same mode other words one two trues =
    subst (λ (m : Mode). AreTrue normal m words) two
    (subst (λ (n : Normal). AreTrue n other words) one trues)
