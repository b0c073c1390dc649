-- Laws of followed assignments. Each is a clause of a function in src/laws.rt.
use Rattle.std.specs.Prelude.{◌≡◌, ◌++◌, ℕ, List, length, take}
use Rattle.clause_store.specs.declared.step.Step.{Step}
use Rattle.clause_store.specs.Trail.{Assigned, IsTrail, up_to}
use Rattle.clause_store.specs.Standing.{Followed, AreFollowed, HasGoneBack}

-- a followed front of a trail stays one when assignments come last
abbrev pub FollowedWithMore : Type 0
FollowedWithMore =
    (steps added : List Step) (followed : List Followed) → AreFollowed steps followed
    → AreFollowed (steps ++ added) followed

-- where followed assignments have gone back, those that are left are followed: as many as the trail
-- has
abbrev pub FollowedAfterBack : Type 0
FollowedAfterBack =
    (trail : Assigned) (followed : List Followed) → HasGoneBack trail followed
    → AreFollowed trail.steps (take (length trail.steps) followed)

-- what is followed has gone back to the present level
abbrev pub FollowedHasGoneBack : Type 0
FollowedHasGoneBack =
    (trail : Assigned) (followed : List Followed) → IsTrail trail
    → AreFollowed trail.steps followed → HasGoneBack trail followed

-- what has gone back to a level has gone back when the trail goes back further
abbrev pub GoneBackFurther : Type 0
GoneBackFurther =
    (old new : Assigned) (level : ℕ) (followed : List Followed) → HasGoneBack old followed
    → new ≡ record old { steps = up_to level old.steps } → HasGoneBack new followed
