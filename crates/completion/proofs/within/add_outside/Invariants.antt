use Rattle.std.proofs.Common.{◌-◌, not, map, filter, take}
use Rattle.ground_program.specs.Meaning.{has}
use Rattle.normal_program.specs.Clauses.{negative, alone, atoms_of_normal, cleaned}
use Rattle.completion.specs.Filling.{Gains}
use Rattle.completion.proofs.within.add_outside.Given as goal

abbrev pub invariant-loop-atom : goal.invariant-loop-atom
invariant-loop-atom l =
    Gains l.initial.store l.store
    (cleaned
    (map (λ atom. alone (negative atom))
    (filter (λ atom. not (has l.set atom)) (take (l.atom - 1) (atoms_of_normal l.normal)))))
