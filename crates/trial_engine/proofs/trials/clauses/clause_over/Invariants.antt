use Rattle.trial_engine.specs.Told.{IsClauseOver}
use Rattle.trial_engine.proofs.trials.clauses.clause_over.Given as goal

abbrev pub invariant-loop-lit : goal.invariant-loop-lit
invariant-loop-lit l = IsClauseOver l.vars l.clause
