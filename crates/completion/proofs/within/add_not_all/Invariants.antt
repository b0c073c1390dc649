use Rattle.std.proofs.Common.{◌≡◌, ◌-◌, map, filter, take}
use Rattle.ground_program.specs.Meaning.{has}
use Rattle.normal_program.specs.Clauses.{negative, atoms_of_normal, each_once}
use Rattle.completion.proofs.within.add_not_all.Given as goal

abbrev pub invariant-loop-atom : goal.invariant-loop-atom
invariant-loop-atom l =
    l.draft
    ≡ each_once
    (map negative (filter (has l.set) (take (l.atom - 1) (atoms_of_normal l.normal))))
