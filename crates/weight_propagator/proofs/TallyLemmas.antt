-- Sums and waiting bodies that follow one assignment more, or one less.
use Rattle.std.proofs.Common.{◌≡◌, ◌<◌, ◌^◌, ℕ, suc}
use Rattle.std.proofs.Common.{List, [], ◌∷◌, ◌++◌, get_or}
use Rattle.std.proofs.Common.{sym, ◌∙◌, subst, arith, Some, None}
use Rattle.std.specs.Prelude.{All, slice_get}
use Rattle.std.proofs.lemmas.Option.{slice_get_within, get_or_from_slice_get}
use Rattle.clause_store.specs.declared.step.Step.{Step}
use Rattle.clause_store.specs.Clause.{variable, negation}
use Rattle.clause_store.specs.Trail.{step_of, value_of}
use Rattle.normal_program.specs.Clauses.{positive}
use Rattle.weight_propagator.specs.declared.row.Term.{Term}
use Rattle.weight_propagator.specs.declared.row.Row.{Row}
use Rattle.weight_propagator.specs.declared.side.Side.{Side}
use Rattle.weight_propagator.specs.declared.side.Side.TheVariants.{Reached, Missed}
use Rattle.weight_propagator.specs.declared.occurrences.Occurrence.{Occurrence}
use Rattle.weight_propagator.specs.declared.tally.Tally.{Tally}
use Rattle.weight_propagator.specs.declared.tally.Way.{Way}
use Rattle.weight_propagator.specs.declared.tally.Way.TheVariants.{Comes, Leaves}
use Rattle.weight_propagator.specs.Rows.{all_sum, IsSized}
use Rattle.weight_propagator.specs.Sums.{row_sum, code_sum, looked_at, AreOccurrences, shown}
use Rattle.weight_propagator.specs.Sums.{on_sum, AreSettled}
use Rattle.weight_propagator.specs.Sums.{itself, one_each, AreMoved, HasTurned}
use Rattle.weight_propagator.specs.Sums.{AreSums, IsInStep}
use Rattle.weight_propagator.proofs.PlaceLemmas.{occurrences_at}
use Rattle.weight_propagator.proofs.SumLemmas.{on_sum_more, on_sum_most, looked_sum, untouched}
use Rattle.weight_propagator.proofs.SumLemmas.{gives_same}

-- ---- a literal turns

module _ (rows : List Row) (places : List (List Occurrence)) (are : AreOccurrences rows places)
    (sized : All IsSized rows) where
  -- what the occurrences of a literal weigh in a body
  weighs : (at : ℕ) (row : Row) → slice_get rows at ≡ Some row → (code : ℕ)
      → row_sum itself at (get_or places code []) ≡ code_sum itself code row.terms
  weighs at row here code =
      occurrences_at rows places are at row here code itself ∙ looked_sum row code

  few : (at : ℕ) (row : Row) → slice_get rows at ≡ Some row → all_sum row.terms < 2 ^ 62
  few at row here =
      subst (λ (one : Row). all_sum one.terms < 2 ^ 62) (get_or_from_slice_get rows at row row here)
      (sized at row (slice_get_within rows at row here)).few

  module _ (front : List Step) (step : Step)
      (unset : step_of front (variable step.lit) ≡ None) where
    sums_come : (side : Side) (old new : List ℕ) → AreSums side front rows old
        → AreMoved Comes (get_or places (shown side step.lit).0 []) old new
        → AreSums side (front ++ step ∷ []) rows new
    sums_come side old new were moved = record {
      same = moved.same ∙ were.same;
      each = λ at row here.
          let was : get_or old at 0 ≡ on_sum side front row.terms = were.each at row here in
          let more = on_sum_more front step unset side row.terms in
          let most = on_sum_most side (front ++ step ∷ []) row.terms in
          let weight = weighs at row here (shown side step.lit).0 in
          let now = moved.each at
          (omega (arith, slice_get_within rows at row here, were.same))
          (omega (arith, was, more, most, weight, few at row here)) in
          omega (arith, was, more, weight, now);
    }

    sums_leave : (side : Side) (old new : List ℕ) → AreSums side (front ++ step ∷ []) rows old
        → AreMoved Leaves (get_or places (shown side step.lit).0 []) old new
        → AreSums side front rows new
    sums_leave side old new were moved = record {
      same = moved.same ∙ were.same;
      each = λ at row here.
          let was : get_or old at 0 ≡ on_sum side (front ++ step ∷ []) row.terms =
          were.each at row here in
          let more = on_sum_more front step unset side row.terms in
          let weight = weighs at row here (shown side step.lit).0 in
          let now = moved.each at
          (omega (arith, slice_get_within rows at row here, were.same)) in
          omega (arith, was, more, weight, now);
    }

    -- the values of a body that isn't touched stay
    values_stay : (at : ℕ) (row : Row) → slice_get rows at ≡ Some row
        → row_sum one_each at (get_or places step.lit.0 []) ≡ 0
        → row_sum one_each at (get_or places (negation step.lit).0 []) ≡ 0
        → All (λ (term : Term). value_of (front ++ step ∷ []) term.lit ≡ value_of front term.lit)
        (looked_at row)
    values_stay at row here no_yes no_no =
        untouched front step unset (looked_at row)
        (sym (occurrences_at rows places are at row here step.lit.0 one_each) ∙ no_yes)
        (sym (occurrences_at rows places are at row here (negation step.lit).0 one_each) ∙ no_no)

    -- a body that doesn't wait gave nothing, and its values stay
    settled_turned : (old new : Tally) (from to : List Step) (way : Way)
        → ((at : ℕ) (row : Row) → slice_get rows at ≡ Some row
        → row_sum one_each at (get_or places step.lit.0 []) ≡ 0
        → row_sum one_each at (get_or places (negation step.lit).0 []) ≡ 0
        → All (λ (term : Term). value_of to term.lit ≡ value_of from term.lit) (looked_at row))
        → AreSettled from rows old.waiting.waits
        → HasTurned way (get_or places step.lit.0 []) (get_or places (negation step.lit).0 [])
        old new → AreSettled to rows new.waiting.waits
    settled_turned old new from to way stay was turned = record {
      same = turned.same ∙ was.same;
      each = λ at row here off gives.
          let (off_before, no_yes, no_no) = turned.rest at off in
          let values = stay at row here no_yes no_no in
          was.each at row here off_before
          (gives_same to from row
          (values 0 (record { lit = positive row.var.0; weight = 0 }) (omega arith))
          (λ k d within. values (suc (suc k)) d (omega (arith, within))) gives);
    }

    module _ (old new : Tally) where
      pub step_comes : IsInStep rows front old
          → HasTurned Comes (get_or places step.lit.0 []) (get_or places (negation step.lit).0 [])
          old new → IsInStep rows (front ++ step ∷ []) new
      step_comes was turned = record {
        reached =
            sums_come Reached old.reached.items new.reached.items was.reached turned.reached;
        missed = sums_come Missed old.missed.items new.missed.items was.missed turned.missed;
        settled =
            settled_turned old new front (front ++ step ∷ []) Comes values_stay was.settled turned;
      }

      pub step_leaves : IsInStep rows (front ++ step ∷ []) old
          → HasTurned Leaves (get_or places step.lit.0 []) (get_or places (negation step.lit).0 [])
          old new → IsInStep rows front new
      step_leaves was turned = record {
        reached =
            sums_leave Reached old.reached.items new.reached.items was.reached turned.reached;
        missed = sums_leave Missed old.missed.items new.missed.items was.missed turned.missed;
        settled =
            settled_turned old new (front ++ step ∷ []) front Leaves
            (λ at row here no_yes no_no k d within.
            sym (values_stay at row here no_yes no_no k d within)) was.settled turned;
      }
