use Rattle.std.proofs.Common.{◌≤◌, ◌<◌, ◌+◌, ◌-◌, [], length, IfSome, vec_len}
use Rattle.byte_edges.specs.Edges.{CameBehind}
use Rattle.byte_edges.proofs.reading.read_all.Given as goal

abbrev pub invariant-loop-bytes : goal.invariant-loop-bytes
invariant-loop-bytes g l = record {
  block : 0 < vec_len l.block;
  within : length l.bytes.items ≤ l.limit;
  came : IfSome (g.S.Source.left l.initial.source)
      (CameBehind (length l.bytes.items) (g.S.Source.left l.source) [] l.bytes.items);
  count : g.S.Source.faults l.initial.source ≤ g.S.Source.faults l.source;
}

abbrev pub decreases-loop-bytes : goal.decreases-loop-bytes
decreases-loop-bytes g l = l.limit + 1 - length l.bytes.items
