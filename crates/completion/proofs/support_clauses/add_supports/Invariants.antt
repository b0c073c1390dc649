use Rattle.std.proofs.Common.{◌-◌, map, take}
use Rattle.normal_program.specs.Clauses.{support_clause, atoms_of_normal, cleaned}
use Rattle.completion.specs.Filling.{Gains}
use Rattle.completion.proofs.support_clauses.add_supports.Given as goal

abbrev pub invariant-loop-atom : goal.invariant-loop-atom
invariant-loop-atom l =
    Gains l.initial.store l.store
    (cleaned (map (support_clause l.normal) (take (l.atom - 1) (atoms_of_normal l.normal))))
