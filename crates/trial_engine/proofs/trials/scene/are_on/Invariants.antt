use Rattle.std.specs.Prelude.{All, take}
use Rattle.clause_store.specs.Clause.{IsOver}
use Rattle.trial_engine.proofs.trials.scene.are_on.Given as goal

abbrev pub invariant-loop-lit : goal.invariant-loop-lit
invariant-loop-lit l = All (IsOver l.trail.vars) (take l.lit-index l.lits)
