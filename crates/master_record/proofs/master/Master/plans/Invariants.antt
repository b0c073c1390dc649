use Rattle.std.proofs.Common.{◌≡◌, length}
use Rattle.master_record.proofs.JobLemmas.{ArePlans}
use Rattle.master_record.proofs.master.Master.plans.Given as goal

abbrev pub invariant-loop-at : goal.invariant-loop-at
invariant-loop-at l = record {
  count : length l.plans.items ≡ l.at;
  so_far : ArePlans l.self l.jobs l.plans.items;
}
