use Rattle.std.proofs.Common.{arith}
use Rattle.std.proofs.lemmas.List.{take_rest, length-drop}
use Rattle.byte_edges.proofs.WritingLemmas.{front_more}
use Rattle.byte_edges.proofs.writing.write_bytes.Goals as goal

pub loop-at-preserved : goal.loop-at-preserved
loop-at-preserved g c =
    front_more _ _ c.args.sink.now c.loop-at.sink c.write.new.self c.args.bytes.now c.loop-at.at
    c.in_ok-at.field-0 c.loop-at.invariant
    (rw take_rest at c.in_ok-at.ensures.appended)
    c.write.ensures.count
    (omega (arith, rw (take_rest, length-drop) at c.in_ok-at.ensures.within))
