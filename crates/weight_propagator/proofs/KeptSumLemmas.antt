-- What is kept when one assignment more is followed, or one less.
use Rattle.std.proofs.Common.{◌≡◌, ◌≢◌, ◌<◌, ◌++◌, ◌∷◌, [], Bool, List, Option, get_or, map, length}
use Rattle.std.proofs.Common.{sym}
use Rattle.std.proofs.Common.{◌∙◌, None, refl}
use Rattle.std.specs.Prelude.{All}
use Rattle.clause_store.specs.declared.step.Step.{Step}
use Rattle.clause_store.specs.Clause.{variable, negation}
use Rattle.clause_store.specs.Trail.{step_of}
use Rattle.clause_store.specs.Standing.{Followed, as_followed}
use Rattle.clause_store.proofs.StepLemmas.{once_push}
use Rattle.normal_program.specs.declared.normal.Normal.{Normal}
use Rattle.weight_propagator.specs.declared.row.Row.{Row}
use Rattle.weight_propagator.specs.declared.occurrences.Occurrence.{Occurrence}
use Rattle.weight_propagator.specs.declared.tally.Tally.{Tally}
use Rattle.weight_propagator.specs.declared.tally.Way.TheVariants.{Comes, Leaves}
use Rattle.weight_propagator.specs.Sums.{HasTurned, IsInStep, IsSizedFor}
use Rattle.weight_propagator.specs.Kept.{AreKept}
use Rattle.weight_propagator.proofs.FollowLemmas.{next_unset, last_unset, front_apart, same_values}
use Rattle.weight_propagator.proofs.FollowLemmas.{step_same}
use Rattle.weight_propagator.proofs.PlaceLemmas.{places_within}
use Rattle.weight_propagator.proofs.RowsLemmas.{all_sized}
use Rattle.weight_propagator.proofs.TallyLemmas.{step_comes, step_leaves}

module _ (inside : Option (List Bool)) (normal : Normal) (rows : List Row)
    (places : List (List Occurrence)) (old : Tally) where
  -- what a turn of a literal asks for
  pub kept_within : (steps : List Step) → AreKept inside normal rows places old steps
      → All (λ list. All (λ (one : Occurrence). one.row < length old.waiting.waits) list) places
  kept_within steps kept =
      places_within rows places (length old.waiting.waits) kept.places_are
      kept.in_step.settled.same

  pub kept_sized : (steps : List Step) → AreKept inside normal rows places old steps
      → IsSizedFor (length old.waiting.waits) old
  kept_sized steps kept = record {
    reached = kept.in_step.reached.same ∙ sym kept.in_step.settled.same;
    missed = kept.in_step.missed.same ∙ sym kept.in_step.settled.same;
    waits = refl;
  }

  module _ (front : List Step) (step : Step) (new : Tally) where
    pub kept_more : AreKept inside normal rows places old front
        → All (λ (one : Followed). variable one.lit ≢ variable step.lit) (map as_followed front)
        → HasTurned Comes (get_or places step.lit.0 []) (get_or places (negation step.lit).0 [])
        old new → AreKept inside normal rows places new (front ++ step ∷ [])
    kept_more kept others turned =
        let unset : step_of front (variable step.lit) ≡ None = next_unset front step.lit others in
        record {
          rows_are = kept.rows_are;
          places_are = kept.places_are;
          in_step =
              step_comes rows places kept.places_are (all_sized inside normal rows kept.rows_are)
              front step unset old new kept.in_step turned;
          apart = once_push front step kept.apart unset;
        }

    pub kept_less : AreKept inside normal rows places old (front ++ step ∷ [])
        → HasTurned Leaves (get_or places step.lit.0 []) (get_or places (negation step.lit).0 [])
        old new → AreKept inside normal rows places new front
    kept_less kept turned = record {
      rows_are = kept.rows_are;
      places_are = kept.places_are;
      in_step =
          step_leaves rows places kept.places_are (all_sized inside normal rows kept.rows_are)
          front step (last_unset front step kept.apart) old new kept.in_step turned;
      apart = front_apart front step kept.apart;
    }

  -- on a trail that is followed to its end
  module _ (followed steps : List Step) (kept : AreKept inside normal rows places old followed)
      (all : map as_followed followed ≡ map as_followed steps) where
    pub kept_on_trail : IsInStep rows steps old
    kept_on_trail =
        step_same rows followed steps (same_values followed steps all) old kept.in_step

    pub kept_after : (new : Tally) → IsInStep rows steps new
        → AreKept inside normal rows places new followed
    kept_after new is = record {
      rows_are = kept.rows_are;
      places_are = kept.places_are;
      in_step =
          step_same rows steps followed (same_values steps followed (sym all)) new is;
      apart = kept.apart;
    }
