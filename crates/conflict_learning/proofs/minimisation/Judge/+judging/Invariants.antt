use Rattle.std.proofs.Common.{◌+◌, ◌*◌, take}
use Rattle.conflict_learning.proofs.MinimisationLemmas.{IsExplaining}
use Rattle.conflict_learning.proofs.minimisation.Judge.+judging.Given as goal

abbrev pub decreases-is_explained : goal.decreases-is_explained
decreases-is_explained l = 2 * l.depth + 1

abbrev pub decreases-is_covered : goal.decreases-is_covered
decreases-is_covered l = 2 * l.depth

abbrev pub invariant-is_explained-loop-other : goal.invariant-is_explained-loop-other
invariant-is_explained-loop-other l =
    IsExplaining l.store l.trail l.forced l.initial.self l.self (take l.other-index l.other-items)
