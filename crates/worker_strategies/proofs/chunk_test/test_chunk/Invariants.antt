use Rattle.std.proofs.Common.{◌+◌, length}
use Rattle.worker_strategies.proofs.PartLemmas.{IsNextPart}
use Rattle.worker_strategies.proofs.chunk_test.test_chunk.Given as goal

abbrev pub invariant-parts : goal.invariant-parts
invariant-parts l =
    IsNextPart l.normal l.cands (length l.initial.budget.units + l.slice) l.initial.tester l.tester
    l.initial.budget l.budget l.part

abbrev pub decreases-parts : goal.decreases-parts
decreases-parts l = length l.part
