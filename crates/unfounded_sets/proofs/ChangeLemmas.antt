-- How sources change: which numbers are marked, and which sources are taken away or given.
use Rattle.std.proofs.Common.{◌≡◌, ◌≢◌, ◌≤◌, ◌<◌, ℕ, Bool, true, false, List, [], ◌∷◌}
use Rattle.std.proofs.Common.{◌++◌, length, get_or, set, refl, sym, ap, ◌∙◌, subst, inl, inr, arith}
use Rattle.std.proofs.Common.{ltb, length-set, sum_by}
use Rattle.std.proofs.lemmas.Bool.{cases_Bool, cases_eq, lt-ltb, ltb-true}
use Rattle.std.proofs.lemmas.List.{get_or-set_same, get_or-set_other}
use Rattle.std.proofs.lemmas.List.Elements.{All-nil, All-push, All-weaker}
use Rattle.std.proofs.lemmas.List.Sums.{sum_by-set}
use Rattle.unfounded_sets.specs.declared.sources.Sources.{Sources}
use Rattle.unfounded_sets.specs.declared.sources.TheConstants.{NO_RANK}
use Rattle.unfounded_sets.specs.Waits.{Waited, one_if}
use Rattle.unfounded_sets.specs.Sources.{rank_of, Waits, AreMarked, IsDoubtedAround, IsDropped}
use Rattle.unfounded_sets.specs.Sources.{Drops, held}

-- ---- marks

waits_set : (waits : List Bool) (row number : ℕ) → row < length waits
    → get_or waits number false ≡ true → get_or (set waits row true) number false ≡ true
waits_set waits row number low here = elim (cases_eq number row) [
  | inl same ↦
      ap (λ at. get_or (set waits row true) at false) same
      ∙ get_or-set_same waits row true false low
  | inr other ↦ get_or-set_other waits row number true false other ∙ here
]

pub mark_none : (waited : Waited) → AreMarked [] waited waited
mark_none waited = record {
  count = refl;
  more = λ number here. here;
  all = All-nil (λ number. number < length waited.waits → Waits waited number);
  few = λ few. few;
}

pub mark_one : (row : ℕ) (old new : Waited) → row < length old.waits
    → new.waits ≡ set old.waits row true → new.left ≤ length new.waits
    → AreMarked (row ∷ []) old new
mark_one row old new low is few = record {
  count = ap length is ∙ length-set old.waits row true;
  more = λ number here.
      ap (λ (waits : List Bool). get_or waits number false) is
      ∙ waits_set old.waits row number low here;
  all =
      All-push (λ number. number < length old.waits → Waits new number) [] row
      (All-nil (λ number. number < length old.waits → Waits new number))
      (λ _.
      ap (λ (waits : List Bool). get_or waits row false) is
      ∙ get_or-set_same old.waits row true false low);
  few = λ _. few;
}

-- a number past the end can't wait
pub mark_past : (row : ℕ) (old : Waited) → length old.waits ≤ row → AreMarked (row ∷ []) old old
mark_past row old past = record {
  count = refl;
  more = λ number here. here;
  all =
      All-push (λ number. number < length old.waits → Waits old number) [] row
      (All-nil (λ number. number < length old.waits → Waits old number))
      (λ low. absurd (omega (arith, low, past)));
  few = λ few. few;
}

pub marked_only : (row : ℕ) (old new : Waited) → AreMarked (row ∷ []) old new
    → row < length old.waits → Waits new row
marked_only row old new marked low = marked.all 0 row (omega arith) low

pub mark_more : (front : List ℕ) (row : ℕ) (old mid new : Waited) → AreMarked front old mid
    → AreMarked (row ∷ []) mid new → AreMarked (front ++ row ∷ []) old new
mark_more front row old mid new first second = record {
  count = second.count ∙ first.count;
  more = λ number here. second.more number (first.more number here);
  all =
      All-push (λ number. number < length old.waits → Waits new number) front row
      (All-weaker (λ number. number < length old.waits → Waits mid number)
      (λ number. number < length old.waits → Waits new number)
      (λ number waits low. second.more number (waits low)) front first.all)
      (λ low. second.all 0 row (omega arith) (omega (arith, low, first.count)));
  few = λ few. second.few (first.few few);
}

-- nothing need be said of the numbers
pub marked_some : (numbers : List ℕ) (old new : Waited) → AreMarked numbers old new
    → AreMarked [] old new
marked_some numbers old new marked = record {
  count = marked.count;
  more = marked.more;
  all = All-nil (λ number. number < length old.waits → Waits new number);
  few = marked.few;
}

-- ---- a source is taken away

counted_low : (rank next : ℕ) → rank < next → one_if (ltb rank next) ≡ 1
counted_low rank next low = ap one_if (lt-ltb rank next low)

past_no : (rank next : ℕ) → next ≤ rank → ltb rank next ≡ false
past_no rank next past = elim (cases_Bool (ltb rank next)) [
  | inl low ↦ absurd (omega (arith, past, ltb-true rank next low))
  | inr no_one ↦ no_one
]

module _ (occurrences : List (List ℕ)) (atom : ℕ) (old new : Sources)
    (bodies : new.bodies ≡ old.bodies) (next : new.next ≡ old.next)
    (ranks : new.ranks.items ≡ set old.ranks.items atom NO_RANK)
    (within : atom < length old.ranks.items) (most : old.next ≤ NO_RANK)
    (doubted : AreMarked [] old.doubted new.doubted)
    (around : IsDoubtedAround occurrences old new atom)
    (lost : AreMarked (atom ∷ []) old.lost new.lost)
    (places : length old.lost.waits ≡ length old.ranks.items) where
  rank_gone : rank_of new atom ≡ NO_RANK
  rank_gone =
      ap (λ (all : List ℕ). get_or all atom NO_RANK) ranks
      ∙ get_or-set_same old.ranks.items atom NO_RANK NO_RANK within

  rank_same : (one : ℕ) → one ≢ atom → rank_of new one ≡ rank_of old one
  rank_same one other =
      ap (λ (all : List ℕ). get_or all one NO_RANK) ranks
      ∙ get_or-set_other old.ranks.items atom one NO_RANK NO_RANK other

  fewer : rank_of old atom < old.next → held new < held old
  fewer low =
      let sum = sum_by-set (λ rank. one_if (ltb rank old.next)) old.ranks.items atom
      NO_RANK NO_RANK within in
      let one = counted_low (rank_of old atom) old.next low in
      let none : one_if (ltb NO_RANK old.next) ≡ 0 =
      ap one_if (past_no NO_RANK old.next most) in
      let now : held new
      ≡ sum_by (λ rank. one_if (ltb rank old.next))
      (set old.ranks.items atom NO_RANK) =
      ap
      (λ n. sum_by (λ rank. one_if (ltb rank n)) new.ranks.items) next
      ∙ ap (sum_by (λ rank. one_if (ltb rank old.next))) ranks in
      omega (arith, sum, one, none, now)

  pub drops_after : Drops occurrences atom old new
  drops_after = record {
    less = record {
      bodies = bodies;
      next = next;
      places = ap length ranks ∙ length-set old.ranks.items atom NO_RANK;
      doubted = doubted;
      lost = marked_some (atom ∷ []) old.lost new.lost lost;
      ranks = λ one. elim (cases_eq one atom) [
        | inl same ↦ inr (subst (IsDropped occurrences old new) (sym same) (record {
          gone = rank_gone;
          lost = marked_only atom old.lost new.lost lost (omega (arith, within, places));
          doubted = around;
        }))
        | inr other ↦ inl (rank_same one other)
      ];
    };
    gone = rank_gone;
    nearer = fewer;
  }
