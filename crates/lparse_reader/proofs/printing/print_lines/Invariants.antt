use Rattle.std.proofs.Common.{take}
use Rattle.std.specs.List.{flat_map}
use Rattle.byte_edges.proofs.CallerLemmas.{Wrote}
use Rattle.lparse_reader.proofs.printing.print_lines.Given as goal

abbrev pub invariant-loop-item : goal.invariant-loop-item
invariant-loop-item g l =
    Wrote g.K.Sink.written g.K.Sink.faults l.initial.sink l.sink
    (flat_map g.T.Line.line (take l.item-index l.items))
