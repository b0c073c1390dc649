use Rattle.std.proofs.Common.{take}
use Rattle.std.specs.Prelude.{All}
use Rattle.unfounded_sets.specs.Single.{IsOtherTrue}
use Rattle.unfounded_sets.proofs.single.has_other_true.Given as goal

abbrev pub invariant-loop-atom : goal.invariant-loop-atom
invariant-loop-atom l =
    All (λ atom. ¬ IsOtherTrue l.trail.steps l.than atom) (take l.atom-index l.atoms)
