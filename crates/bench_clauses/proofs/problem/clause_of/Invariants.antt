use Rattle.bench_clauses.specs.Problem.{IsClauseOver}
use Rattle.bench_clauses.proofs.problem.clause_of.Given as goal

abbrev pub invariant-loop-lit : goal.invariant-loop-lit
invariant-loop-lit l = IsClauseOver l.vars l.clause
