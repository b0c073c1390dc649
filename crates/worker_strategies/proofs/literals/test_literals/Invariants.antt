use Rattle.std.proofs.Common.{◌≡◌, map, take}
use Rattle.worker_jobs.specs.Job.{test_literal}
use Rattle.worker_strategies.proofs.literals.test_literals.Given as goal

abbrev pub invariant-loop-cand : goal.invariant-loop-cand
invariant-loop-cand l =
    l.lits ≡ map (test_literal l.normal.names l.mode) (take l.cand-index l.cands)
