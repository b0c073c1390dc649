use Rattle.std.proofs.Common.{◌≤◌, drop, length}
use Rattle.unfounded_sets.specs.Sources.{AreSourcesBut, work}
use Rattle.unfounded_sets.proofs.keeping.drop_by.Given as goal

abbrev pub invariant-loop-head : goal.invariant-loop-head
invariant-loop-head l = record {
  sources :
      AreSourcesBut l.normal l.trail.steps l.body (drop l.head-index l.head-items) l.sources;
  few : l.sources.doubted.left ≤ length l.sources.doubted.waits;
  nearer : work l.sources ≤ work l.initial.sources;
}
