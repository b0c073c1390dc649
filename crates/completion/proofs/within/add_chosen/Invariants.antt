use Rattle.std.proofs.Common.{[], ◌∷◌, map, filter, take}
use Rattle.ground_program.specs.Meaning.{has}
use Rattle.normal_program.specs.Clauses.{positive, negative, cleaned}
use Rattle.completion.specs.Filling.{Gains}
use Rattle.completion.proofs.within.add_chosen.Given as goal

abbrev pub invariant-loop-head : goal.invariant-loop-head
invariant-loop-head l =
    Gains l.initial.store l.store
    (cleaned
    (map (λ head. negative l.var.0 ∷ positive head ∷ [])
    (filter (has l.set) (take l.head-index l.heads))))
