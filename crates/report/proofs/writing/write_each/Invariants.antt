use Rattle.std.proofs.Common.{take}
use Rattle.byte_edges.proofs.CallerLemmas.{Wrote}
use Rattle.report.specs.Text.{fields, positions_from}
use Rattle.report.proofs.writing.write_each.Given as goal

abbrev pub invariant-loop-at : goal.invariant-loop-at
invariant-loop-at g l =
    Wrote g.K.Sink.written g.K.Sink.faults l.initial.sink l.sink
    (fields (positions_from l.from (take l.at l.block)))
