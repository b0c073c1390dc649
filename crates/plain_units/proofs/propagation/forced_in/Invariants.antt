use Rattle.std.proofs.Common.{take}
use Rattle.plain_units.proofs.UnitLemmas.{AreKnown}
use Rattle.plain_units.proofs.propagation.forced_in.Given as goal

abbrev pub invariant-loop-lit : goal.invariant-loop-lit
invariant-loop-lit l = AreKnown l.known l.clause (take l.lit-index l.clause)
