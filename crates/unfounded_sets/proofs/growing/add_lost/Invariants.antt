use Rattle.unfounded_sets.specs.Grown.{AreAtoms}
use Rattle.unfounded_sets.proofs.growing.add_lost.Given as goal

abbrev pub invariant-loop-part : goal.invariant-loop-part
invariant-loop-part l = AreAtoms l.normal l.atoms
