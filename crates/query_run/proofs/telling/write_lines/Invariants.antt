use Rattle.std.proofs.Common.{take}
use Rattle.std.specs.List.{flat_map}
use Rattle.byte_edges.proofs.CallerLemmas.{Wrote}
use Rattle.report.specs.Text.{text_of_line}
use Rattle.query_run.proofs.telling.write_lines.Given as goal

abbrev pub invariant-loop-line : goal.invariant-loop-line
invariant-loop-line g l =
    Wrote g.K.Sink.written g.K.Sink.faults l.initial.sink l.sink
    (flat_map (text_of_line l.names) (take l.line-index l.lines))
