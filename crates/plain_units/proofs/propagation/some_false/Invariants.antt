use Rattle.std.proofs.Common.{take}
use Rattle.std.specs.Prelude.{All}
use Rattle.plain_units.specs.Forcing.{IsFalseBy}
use Rattle.plain_units.proofs.propagation.some_false.Given as goal

abbrev pub invariant-loop-clause : goal.invariant-loop-clause
invariant-loop-clause l = All (λ clause. ¬ IsFalseBy l.known clause) (take l.clause-index l.clauses)
