use Rattle.std.proofs.Common.{take}
use Rattle.plain_units.specs.Forcing.{IsFalseBy}
use Rattle.plain_units.proofs.propagation.is_false.Given as goal

abbrev pub invariant-loop-lit : goal.invariant-loop-lit
invariant-loop-lit l = IsFalseBy l.known (take l.lit-index l.clause)
