use Rattle.std.proofs.Common.{take}
use Rattle.std.specs.List.{flat_map}
use Rattle.lparse_reader.specs.Text.{next_field}
use Rattle.byte_edges.proofs.CallerLemmas.{Wrote}
use Rattle.lparse_reader.proofs.printing.print_numbers.Given as goal

abbrev pub invariant-loop-number : goal.invariant-loop-number
invariant-loop-number g l =
    Wrote g.K.Sink.written g.K.Sink.faults l.initial.sink l.sink
    (flat_map next_field (take l.number-index l.numbers))
