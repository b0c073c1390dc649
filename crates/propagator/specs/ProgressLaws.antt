-- Laws of progress in the words of propagation. Each is a clause of a function in src/laws.rt.
use Rattle.std.specs.Prelude.{◌≡◌, ◌<◌, ℕ, Bool, true, false}
use Rattle.clause_store.specs.Trail.{Assigned, IsTrail, present_level, up_to}
use Rattle.clause_store.specs.Progress.{progress, HasGoneOn}
use Rattle.propagator.specs.Fixpoint.{Extends}

-- a run of propagation that assigns something or finds a conflict makes progress
abbrev pub ProgressByPropagation : Type 0
ProgressByPropagation =
    (old new : Assigned) (conflict : Bool) (run : Extends old new) → IsTrail new
    → HasGoneOn run.added conflict
    → progress old.vars false old.steps < progress new.vars conflict new.steps

-- and so does, after a conflict, such a run on the trail that went back to a lower level; a
-- conflict that is there at once counts too
abbrev pub ProgressByGoingBack : Type 0
ProgressByGoingBack =
    (old back new : Assigned) (level : ℕ) (conflict : Bool) (run : Extends back new) → IsTrail old
    → IsTrail new → level < present_level old.steps → back.vars ≡ old.vars
    → back.steps ≡ up_to level old.steps → HasGoneOn run.added conflict
    → progress old.vars true old.steps < progress new.vars conflict new.steps
