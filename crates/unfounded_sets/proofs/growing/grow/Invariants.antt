use Rattle.unfounded_sets.specs.Grown.{AreAtoms}
use Rattle.unfounded_sets.proofs.growing.grow.Given as goal

abbrev pub invariant-loop-place : goal.invariant-loop-place
invariant-loop-place l = AreAtoms l.normal l.atoms
