-- Laws of progress. Each is a clause of a function in src/laws.rt.
use Rattle.std.specs.Prelude.{◌≡◌, ◌<◌, ◌≤◌, ◌++◌, ℕ, Bool, true, false, List, All}
use Rattle.clause_store.specs.declared.step.Step.{Step}
use Rattle.clause_store.specs.Trail.{Assigned, IsTrail, present_level, up_to}
use Rattle.clause_store.specs.Progress.{progress, most_progress, HasGoneOn}

-- progress is less than a bound
abbrev pub ProgressIsBounded : Type 0
ProgressIsBounded =
    (trail : Assigned) (conflict : Bool) → IsTrail trail
    → progress trail.vars conflict trail.steps < most_progress trail.vars

-- where there is no conflict it rises when assignments come last, decided or forced, or when a
-- conflict is found
abbrev pub ProgressRises : Type 0
ProgressRises =
    (old new : Assigned) (added : List Step) (conflict : Bool) → IsTrail new → new.vars ≡ old.vars
    → new.steps ≡ old.steps ++ added → HasGoneOn added conflict
    → progress old.vars false old.steps < progress new.vars conflict new.steps

-- after a conflict it rises when the trail goes back to a lower level and there assignments come
-- last, or again a conflict is found
abbrev pub ProgressRisesAfterBack : Type 0
ProgressRisesAfterBack =
    (old new : Assigned) (level : ℕ) (added : List Step) (conflict : Bool) → IsTrail old
    → IsTrail new → new.vars ≡ old.vars → level < present_level old.steps
    → new.steps ≡ up_to level old.steps ++ added
    → All (λ step. step.level ≡ level) added → HasGoneOn added conflict
    → progress old.vars true old.steps < progress new.vars conflict new.steps

-- going back to a level that there is makes it the present one
abbrev pub PresentAfterBack : Type 0
PresentAfterBack =
    (trail : Assigned) (level : ℕ) → IsTrail trail → level ≤ present_level trail.steps
    → present_level (up_to level trail.steps) ≡ level
