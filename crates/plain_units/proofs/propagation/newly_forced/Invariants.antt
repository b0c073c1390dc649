use Rattle.std.proofs.Common.{take}
use Rattle.std.specs.Prelude.{All}
use Rattle.plain_units.specs.Forcing.{IsClosedUnder}
use Rattle.plain_units.proofs.propagation.newly_forced.Given as goal

abbrev pub invariant-loop-clause : goal.invariant-loop-clause
invariant-loop-clause l = All (IsClosedUnder l.known) (take l.clause-index l.clauses)
