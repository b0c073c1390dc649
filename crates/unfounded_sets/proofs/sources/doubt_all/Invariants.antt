use Rattle.std.proofs.Common.{take}
use Rattle.unfounded_sets.specs.Sources.{AreMarked}
use Rattle.unfounded_sets.proofs.sources.doubt_all.Given as goal

abbrev pub invariant-loop-body : goal.invariant-loop-body
invariant-loop-body l = AreMarked (take l.body-index l.bodies) l.initial.doubted l.doubted
