use Rattle.std.proofs.Common.{◌≡◌, ◌+◌, nat_eq, true, not, sum_by, take}
use Rattle.std.specs.List.{list_all}
use Rattle.normal_program.specs.declared.normal.Part.{Part}
use Rattle.normal_program.proofs.normal.BodyOf.is_conjunctive.Given as goal

abbrev pub invariant-loop-part : goal.invariant-loop-part
invariant-loop-part l = record {
  sum : l.left + sum_by (λ (part : Part). part.weight) (take l.part-index l.part-items)
      ≡ l.self.bound;
  some : list_all (λ (part : Part). not (nat_eq part.weight 0)) (take l.part-index l.part-items)
      ≡ true;
}
