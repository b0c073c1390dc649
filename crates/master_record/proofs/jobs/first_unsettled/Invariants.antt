use Rattle.std.proofs.Common.{◌≡◌, ◌≤◌, vec_len}
use Rattle.std.specs.Prelude.{filter}
use Rattle.std.specs.List.{range_with_len}
use Rattle.master_record.specs.Course.{is_open}
use Rattle.master_record.proofs.jobs.first_unsettled.Given as goal

abbrev pub invariant-loop-place : goal.invariant-loop-place
invariant-loop-place l = record {
  so_far : l.cands.items ≡ filter (is_open l.candidates.pair) (range_with_len 1 l.place);
  few : vec_len l.cands ≤ l.size;
}
