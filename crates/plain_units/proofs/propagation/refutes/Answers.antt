use Rattle.plain_units.proofs.UnitLemmas.{refutes_says}
use Rattle.plain_units.proofs.propagation.refutes.Goals as goal

pub returns : goal.returns
returns c = refutes_says _ _ _ _ _ c.as_slice.ensures c.in_ok-known.ensures c.some_false.ensures
