use Rattle.trial_following.specs.Searching.{IsClauseOver}
use Rattle.trial_following.proofs.trials.clauses.clause_over.Given as goal

abbrev pub invariant-loop-lit : goal.invariant-loop-lit
invariant-loop-lit l = IsClauseOver l.vars l.clause
