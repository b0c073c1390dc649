use Rattle.std.proofs.Common.{◌-◌, length}
use Rattle.byte_edges.proofs.WritingLemmas.{WroteFront}
use Rattle.byte_edges.proofs.writing.write_bytes.Given as goal

abbrev pub invariant-loop-at : goal.invariant-loop-at
invariant-loop-at g l =
    WroteFront g.K.Sink.written g.K.Sink.faults l.initial.sink l.sink l.bytes l.at

abbrev pub decreases-loop-at : goal.decreases-loop-at
decreases-loop-at g l = length l.bytes - l.at
