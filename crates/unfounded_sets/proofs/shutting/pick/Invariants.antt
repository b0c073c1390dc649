use Rattle.std.proofs.Common.{◌≤◌, ◌+◌, take}
use Rattle.unfounded_sets.specs.Grown.{AddsLits, weight_apart}
use Rattle.unfounded_sets.specs.Wanted.{weight_possible}
use Rattle.unfounded_sets.proofs.shutting.pick.Given as goal

abbrev pub invariant-loop-part : goal.invariant-loop-part
invariant-loop-part l = record {
  adds : AddsLits l.normal l.initial.lits l.lits;
  some : 1 ≤ l.left;
  below :
      weight_apart l.set l.lits.marks (take l.part-index l.part-items) + l.left
      ≤ weight_possible l.trail.steps l.set (take l.part-index l.part-items) + l.lacked;
}
