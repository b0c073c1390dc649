use Rattle.clause_store.specs.Clause.{AreOver}
use Rattle.trial_following.proofs.trials.clauses.store_of.Given as goal

abbrev pub invariant-loop-lits : goal.invariant-loop-lits
invariant-loop-lits l = AreOver l.vars l.store
