use Rattle.std.proofs.Common.{◌≡◌, take, length}
use Rattle.weight_propagator.specs.Sums.{AreEntered}
use Rattle.weight_propagator.proofs.gathering.enter_terms.Given as goal

abbrev pub invariant-loop-term : goal.invariant-loop-term
invariant-loop-term l = record {
  entered :
      AreEntered l.number (take l.term-index l.terms) l.initial.lists.items l.lists.items;
  same : length l.lists.items ≡ length l.initial.lists.items;
}
