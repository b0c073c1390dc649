use Rattle.std.proofs.Common.{◌≤◌, ℕ}
use Rattle.worker_jobs.specs.declared.job.Job.TheVariants.{Single}
use Rattle.master_record.specs.Jobs.{IsUntested, IsTaken}
use Rattle.master_record.proofs.master.Master.single.Given as goal

abbrev pub invariant-loop-place : goal.invariant-loop-place
invariant-loop-place l =
    (other : ℕ) → other ≤ l.place → IsUntested l.self other
    → IsTaken l.self l.earlier l.later (Single other)
