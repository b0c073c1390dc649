use Rattle.std.specs.Prelude.{take}
use Rattle.clause_store.specs.Standing.{IsFalseOn}
use Rattle.trial_engine.proofs.trials.listed.is_false.Given as goal

abbrev pub invariant-loop-lit : goal.invariant-loop-lit
invariant-loop-lit l = IsFalseOn l.trail.steps (take l.lit-index l.lits)
