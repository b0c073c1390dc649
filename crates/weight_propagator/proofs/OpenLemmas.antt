-- What is kept at the beginning, when nothing is followed and all bodies wait.
use Rattle.std.proofs.Common.{◌≡◌, ◌∙◌, ℕ, Bool, true, false, List, [], Option}
use Rattle.std.proofs.Common.{None, get_or, length, replicate, refl, sym, ap, cond, arith}
use Rattle.std.specs.Prelude.{All, if◌then◌else◌, ◌||◌}
use Rattle.std.proofs.lemmas.Bool.{true≢false}
use Rattle.std.proofs.lemmas.List.{get_or-replicate, length-replicate}
use Rattle.std.proofs.lemmas.Option.{slice_get_within}
use Rattle.clause_store.specs.declared.literal.Value.TheVariants.{Unset}
use Rattle.item_list.proofs.ListLemmas.{sum_by-none}
use Rattle.normal_program.specs.declared.normal.Normal.{Normal}
use Rattle.weight_propagator.specs.declared.row.Term.{Term}
use Rattle.weight_propagator.specs.declared.row.Row.{Row}
use Rattle.weight_propagator.specs.declared.side.Side.{Side}
use Rattle.weight_propagator.specs.declared.side.Side.TheVariants.{Reached, Missed}
use Rattle.weight_propagator.specs.declared.occurrences.Occurrence.{Occurrence}
use Rattle.weight_propagator.specs.declared.tally.Tally.{Tally}
use Rattle.weight_propagator.specs.Rows.{AreRows, is_on, is_taken}
use Rattle.weight_propagator.specs.Sums.{AreOccurrences, AreSums, on_sum}
use Rattle.weight_propagator.specs.Kept.{AreKept}

-- nothing weighs anything
on_none : (side : Side) (terms : List Term) → on_sum side [] terms ≡ 0
on_none side terms =
    sum_by-none (λ (term : Term). if is_taken side [] None term then term.weight else 0) terms
    (λ k d within. off side (get_or terms k d).weight)
  where
    off : (one : Side) (weight : ℕ) → cond (is_on one Unset || false) weight 0 ≡ 0
    off Reached weight = refl
    off Missed weight = refl

sums_open : (side : Side) (rows : List Row) (sums : List ℕ) (count : ℕ)
    → sums ≡ replicate count 0 → count ≡ length rows → AreSums side [] rows sums
sums_open side rows sums count are same = record {
  same = ap length are ∙ length-replicate count 0 ∙ same;
  each = λ at row here.
      ap (λ all. get_or all at 0) are
      ∙ get_or-replicate count at 0 0 (omega (arith, slice_get_within rows at row here, same))
      ∙ sym (on_none side row.terms);
}

pub open_kept : (inside : Option (List Bool)) (normal : Normal) (rows : List Row)
    (places : List (List Occurrence)) (tally : Tally) (count : ℕ) → AreRows inside normal rows
    → AreOccurrences rows places → count ≡ length rows → tally.reached.items ≡ replicate count 0
    → tally.missed.items ≡ replicate count 0 → length tally.waiting.waits ≡ count
    → All (λ waits. waits ≡ true) tally.waiting.waits
    → AreKept inside normal rows places tally []
open_kept inside normal rows places tally count are stand same reached missed size all = record {
  rows_are = are;
  places_are = stand;
  in_step = record {
    reached = sums_open Reached rows tally.reached.items count reached same;
    missed = sums_open Missed rows tally.missed.items count missed same;
    settled = record {
      same = size ∙ same;
      each = λ at row here off.
          absurd
          (true≢false
          (sym (all at true (omega (arith, slice_get_within rows at row here, size, same))) ∙ off));
    };
  };
  apart = λ i j d before within. absurd (omega (arith, within));
}
