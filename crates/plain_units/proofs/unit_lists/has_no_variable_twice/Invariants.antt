use Rattle.plain_units.proofs.UnitLemmas.{AreOnce}
use Rattle.plain_units.proofs.unit_lists.has_no_variable_twice.Given as goal

abbrev pub invariant-loop-at : goal.invariant-loop-at
invariant-loop-at l = AreOnce l.clause l.at
