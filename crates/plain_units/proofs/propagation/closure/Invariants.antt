use Rattle.plain_units.proofs.ClosureLemmas.{IsBelow, missing}
use Rattle.plain_units.proofs.propagation.closure.Given as goal

abbrev pub invariant-additions : goal.invariant-additions
invariant-additions l = IsBelow l.clauses l.lits l.known

abbrev pub decreases-additions : goal.decreases-additions
decreases-additions l = missing l.clauses l.known
