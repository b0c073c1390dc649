use Rattle.std.proofs.Common.{◌<◌, ◌-◌}
use Rattle.search_heuristics.specs.Heap.{AreVariables}
use Rattle.search_heuristics.proofs.activity_heap.sink.Given as goal

abbrev pub invariant-sinking : goal.invariant-sinking
invariant-sinking l = AreVariables l.activities l.places l.heap × (l.hole < l.count)

abbrev pub decreases-sinking : goal.decreases-sinking
decreases-sinking l = l.count - l.hole
