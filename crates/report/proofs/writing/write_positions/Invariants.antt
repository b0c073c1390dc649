use Rattle.std.proofs.Common.{◌≤◌, ◌-◌, length, take}
use Rattle.byte_edges.proofs.CallerLemmas.{Wrote}
use Rattle.report.specs.Text.{fields, positions_from}
use Rattle.report.proofs.writing.write_positions.Given as goal

abbrev pub invariant-loop-at : goal.invariant-loop-at
invariant-loop-at g l = record {
  within : l.at ≤ length l.set;
  wrote : Wrote g.K.Sink.written g.K.Sink.faults l.initial.sink l.sink
      (fields (positions_from 0 (take l.at l.set)));
}

abbrev pub decreases-loop-at : goal.decreases-loop-at
decreases-loop-at g l = length l.set - l.at
