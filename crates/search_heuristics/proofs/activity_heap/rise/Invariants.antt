use Rattle.std.proofs.Common.{◌<◌, length}
use Rattle.search_heuristics.specs.Heap.{AreVariables}
use Rattle.search_heuristics.proofs.activity_heap.rise.Given as goal

abbrev pub invariant-rising : goal.invariant-rising
invariant-rising l = AreVariables l.activities l.places l.heap × (l.hole < length l.heap)

abbrev pub decreases-rising : goal.decreases-rising
decreases-rising l = l.hole
