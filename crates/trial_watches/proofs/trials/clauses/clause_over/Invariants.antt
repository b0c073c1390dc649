use Rattle.trial_watches.specs.Over.{IsClauseOver}
use Rattle.trial_watches.proofs.trials.clauses.clause_over.Given as goal

abbrev pub invariant-loop-code : goal.invariant-loop-code
invariant-loop-code l = IsClauseOver l.vars l.clause
