use Rattle.std.proofs.Common.{take}
use Rattle.std.specs.Prelude.{All}
use Rattle.unfounded_sets.specs.Wanted.{IsTrueOutside}
use Rattle.unfounded_sets.proofs.loops.true_outside.Given as goal

abbrev pub invariant-loop-atom : goal.invariant-loop-atom
invariant-loop-atom l =
    All (λ atom. ¬ IsTrueOutside l.trail.steps l.part atom) (take l.atom-index l.atoms)
