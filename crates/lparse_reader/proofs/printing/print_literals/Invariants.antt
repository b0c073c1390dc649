use Rattle.std.proofs.Common.{take}
use Rattle.std.specs.List.{flat_map}
use Rattle.byte_edges.proofs.CallerLemmas.{Wrote}
use Rattle.lparse_reader.proofs.lemmas.Writing.TextWrites.{literal_field}
use Rattle.lparse_reader.proofs.printing.print_literals.Given as goal

abbrev pub invariant-loop-part : goal.invariant-loop-part
invariant-loop-part g l =
    Wrote g.K.Sink.written g.K.Sink.faults l.initial.sink l.sink
    (flat_map literal_field (take l.part-index l.body))
