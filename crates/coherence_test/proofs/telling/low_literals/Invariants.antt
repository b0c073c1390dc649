use Rattle.std.proofs.Common.{◌≡◌, filter, take}
use Rattle.coherence_test.specs.Searching.{is_low}
use Rattle.coherence_test.proofs.telling.low_literals.Given as goal

abbrev pub invariant-loop-lit : goal.invariant-loop-lit
invariant-loop-lit l = l.lits ≡ filter (is_low l.greatest) (take l.lit-index l.found)
