use Rattle.std.proofs.Common.{◌≡◌, ◌≤◌, take}
use Rattle.clause_store.specs.Trail.{values_of}
use Rattle.coherence_test.proofs.telling.set_on.Given as goal

abbrev pub invariant-loop-atom : goal.invariant-loop-atom
invariant-loop-atom l = (1 ≤ l.atom) × (l.set ≡ take l.atom (values_of l.trail))
