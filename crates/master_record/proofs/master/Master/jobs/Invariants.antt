use Rattle.std.proofs.Common.{◌≡◌, length}
use Rattle.master_record.proofs.JobLemmas.{AreJobs}
use Rattle.master_record.proofs.master.Master.jobs.Given as goal

abbrev pub invariant-loop-at : goal.invariant-loop-at
invariant-loop-at l = record {
  count : length l.jobs.items ≡ l.at;
  so_far : AreJobs l.self l.jobs.items;
}
