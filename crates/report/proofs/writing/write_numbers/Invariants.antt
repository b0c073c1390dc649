use Rattle.std.proofs.Common.{take}
use Rattle.byte_edges.proofs.CallerLemmas.{Wrote}
use Rattle.report.specs.Text.{fields}
use Rattle.report.proofs.writing.write_numbers.Given as goal

abbrev pub invariant-loop-number : goal.invariant-loop-number
invariant-loop-number g l =
    Wrote g.K.Sink.written g.K.Sink.faults l.initial.sink l.sink
    (fields (take l.number-index l.numbers))
