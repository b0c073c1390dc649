-- What brings a search nearer to its end.
use Rattle.std.specs.Prelude.{◌≡◌, ◌<◌, ◌+◌, ◌-◌, ◌^◌, ◌⊎◌, ℕ, length, sum_by}
use Rattle.clause_store.specs.Trail.{Assigned}
use Rattle.search_state.specs.State.{Searched}

-- an assignment weighs more than all together that may come at higher levels
abbrev pub weight : Assigned → ℕ
weight trail = sum_by (λ step. (trail.vars + 1) ^ (trail.vars - step.level)) trail.steps

-- the clauses are as many, and the trail weighs more
pub record IsFurther (old new : Searched) : Type 0 where
  pub same : length new.clauses ≡ length old.clauses
  pub more : weight old.trail < weight new.trail

-- there are more clauses, or the trail weighs more
abbrev pub IsNearer : Searched → Searched → Type 0
IsNearer old new = (length old.clauses < length new.clauses) ⊎ IsFurther old new
