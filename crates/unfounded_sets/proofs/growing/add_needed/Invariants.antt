use Rattle.unfounded_sets.specs.Grown.{AreAtoms}
use Rattle.unfounded_sets.proofs.growing.add_needed.Given as goal

abbrev pub invariant-loop-body : goal.invariant-loop-body
invariant-loop-body l = AreAtoms l.normal l.atoms
