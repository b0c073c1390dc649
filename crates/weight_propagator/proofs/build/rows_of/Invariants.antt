use Rattle.weight_propagator.specs.Rows.{AreRowsTo}
use Rattle.weight_propagator.proofs.build.rows_of.Given as goal

abbrev pub invariant-loop-number : goal.invariant-loop-number
invariant-loop-number l = AreRowsTo l.inside l.normal l.number l.rows.items
