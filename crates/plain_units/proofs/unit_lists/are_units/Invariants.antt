use Rattle.plain_units.proofs.UnitLemmas.{IsLeft}
use Rattle.plain_units.proofs.unit_lists.are_units.Given as goal

abbrev pub invariant-loop-unit : goal.invariant-loop-unit
invariant-loop-unit l = IsLeft l.base l.list l.clauses l.unit-index
