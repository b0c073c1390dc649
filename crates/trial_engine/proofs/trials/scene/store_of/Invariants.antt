use Rattle.clause_store.specs.Clause.{AreOver}
use Rattle.trial_engine.proofs.trials.scene.store_of.Given as goal

abbrev pub invariant-loop-clause : goal.invariant-loop-clause
invariant-loop-clause l = AreOver l.vars l.store
