use Rattle.std.proofs.Common.{take}
use Rattle.std.specs.Prelude.{All}
use Rattle.unfounded_sets.specs.Grown.{AddsLits, IsShutFor}
use Rattle.unfounded_sets.proofs.shutting.shut_all.Given as goal

abbrev pub invariant-loop-atom : goal.invariant-loop-atom
invariant-loop-atom l = record {
  adds : AddsLits l.normal l.initial.lits l.lits;
  shut :
      All (IsShutFor l.normal l.atoms.marks l.lits.marks) (take l.atom-index l.atom-items);
}
