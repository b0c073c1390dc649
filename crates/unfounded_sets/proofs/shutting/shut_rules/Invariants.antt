use Rattle.std.proofs.Common.{take}
use Rattle.std.specs.Prelude.{All}
use Rattle.unfounded_sets.specs.Grown.{AddsLits, IsShut}
use Rattle.unfounded_sets.proofs.shutting.shut_rules.Given as goal

abbrev pub invariant-loop-body : goal.invariant-loop-body
invariant-loop-body l = record {
  adds : AddsLits l.normal l.initial.lits l.lits;
  shut : All (IsShut l.normal l.set l.lits.marks) (take l.body-index l.body-items);
}
