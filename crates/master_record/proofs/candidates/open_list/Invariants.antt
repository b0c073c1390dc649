use Rattle.std.proofs.Common.{◌≡◌}
use Rattle.std.specs.Prelude.{filter}
use Rattle.std.specs.List.{range_with_len}
use Rattle.master_record.specs.Course.{is_open}
use Rattle.master_record.proofs.candidates.open_list.Given as goal

abbrev pub invariant-loop-place : goal.invariant-loop-place
invariant-loop-place l =
    l.cands.items ≡ filter (is_open l.candidates.pair) (range_with_len 1 l.place)
