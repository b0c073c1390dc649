use Rattle.std.proofs.Common.{take}
use Rattle.unfounded_sets.specs.Single.{AddsAll}
use Rattle.unfounded_sets.proofs.single.mark_all.Given as goal

abbrev pub invariant-loop-atom : goal.invariant-loop-atom
invariant-loop-atom l = AddsAll (take l.atom-index l.atoms) l.initial.set l.set
