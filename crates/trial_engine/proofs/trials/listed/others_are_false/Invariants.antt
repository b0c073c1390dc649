use Rattle.std.specs.Prelude.{◌≢◌, All, take}
use Rattle.clause_store.specs.Standing.{IsFalse}
use Rattle.trial_engine.proofs.trials.listed.others_are_false.Given as goal

abbrev pub invariant-loop-other : goal.invariant-loop-other
invariant-loop-other l =
    All (λ other. other ≢ l.lit → IsFalse l.trail.steps other) (take l.other-index l.lits)
