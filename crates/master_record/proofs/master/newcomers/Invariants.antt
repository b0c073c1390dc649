use Rattle.std.proofs.Common.{◌≡◌, replicate}
use Rattle.master_record.specs.Rounds.{newcomer}
use Rattle.master_record.proofs.master.newcomers.Given as goal

abbrev pub invariant-loop-number : goal.invariant-loop-number
invariant-loop-number l = l.workers.items ≡ replicate l._number newcomer
