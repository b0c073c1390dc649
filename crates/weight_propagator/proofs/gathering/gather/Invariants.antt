use Rattle.std.proofs.Common.{◌≡◌, ◌+◌, ◌*◌, length, map, take}
use Rattle.weight_propagator.specs.Sums.{AreOccurrencesIn, looked_at}
use Rattle.weight_propagator.proofs.gathering.gather.Given as goal

abbrev pub invariant-loop-number : goal.invariant-loop-number
invariant-loop-number l = record {
  entered : AreOccurrencesIn (map looked_at (take l.number l.rows)) l.lists.items;
  same : length l.lists.items ≡ 2 * l.vars + 2;
}
