use Rattle.std.specs.Prelude.{All}
use Rattle.trial_engine.specs.Told.{IsClauseOver}
use Rattle.trial_engine.proofs.trials.clauses.clauses_over.Given as goal

abbrev pub invariant-loop-lits : goal.invariant-loop-lits
invariant-loop-lits l = All (IsClauseOver l.vars) l.clauses
