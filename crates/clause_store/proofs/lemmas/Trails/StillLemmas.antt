-- What stays as it was when assignments come last, and when the trail goes back.
use Rattle.std.proofs.Common.{◌≡◌, ◌≤◌, Bool, true, false, cond, eqb, List, [], ◌∷◌, ◌++◌, get_or}
use Rattle.std.proofs.Common.{Option, Some, None, refl, sym, ap, ◌∙◌, subst}
use Rattle.std.specs.Prelude.{find, option_map, IsSomeAnd}
use Rattle.clause_store.specs.declared.step.Step.{Step}
use Rattle.clause_store.specs.Clause.{variable}
use Rattle.clause_store.specs.Trail.{step_of, value_by}
use Rattle.clause_store.specs.Laws.{IsStill, ValuesStay, ForcesAfterBack}
use Rattle.clause_store.proofs.BackLemmas.{values_after_back}
use Rattle.clause_store.proofs.StepLemmas.{step_of_unset}

-- what is found stays found when elements come last
pub find_in_front : {X : Type 0} (p : X → Bool) (xs ys : List X) (x : X) → find p xs ≡ Some x
    → find p (xs ++ ys) ≡ Some x
find_in_front p [] ys x found = absurd (cc)
find_in_front p (first ∷ xs) ys x found = go (p first) found (find_in_front p xs ys x)
  where
    go : (b : Bool) → cond b (Some first) (find p xs) ≡ Some x
        → (find p xs ≡ Some x → find p (xs ++ ys) ≡ Some x)
        → cond b (Some first) (find p (xs ++ ys)) ≡ Some x
    go true is rest = is
    go false is rest = rest is

pub values_stay : ValuesStay
values_stay steps added lit set =
    go (step_of steps (variable lit)) refl
  where
    go : (o : Option Step) → step_of steps (variable lit) ≡ o
        → IsStill steps (steps ++ added) lit
    go None none = absurd (set (ap (λ o. value_by o lit) none))
    go (Some step) found =
        let same : step_of (steps ++ added) (variable lit) ≡ step_of steps (variable lit) =
        find_in_front (λ s. eqb (variable s.lit) (variable lit)) steps added step found
        ∙ sym found in
        record {
          value = ap (λ o. value_by o lit) same;
          level = ap (option_map (λ step. step.level)) same;
        }

pub forces_after_back : ForcesAfterBack
forces_after_back trail level clause lit is forces others =
    record {
      here = forces.here;
      unset =
          (values_after_back trail level lit is).unset
          (subst (λ o. ¬ IsSomeAnd (option_map (λ step. step.level) o) (λ at. at ≤ level))
          (sym (step_of_unset trail.steps lit forces.unset)) (λ assigned. absurd assigned));
      others =
          λ k d within differs. (values_after_back trail level (get_or clause k d) is).kept
          (others k d within differs)
          ∙ forces.others k d within differs;
    }
