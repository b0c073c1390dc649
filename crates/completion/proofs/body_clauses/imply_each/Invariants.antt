use Rattle.std.proofs.Common.{[], ◌∷◌, map, take}
use Rattle.normal_program.specs.Clauses.{negative, cleaned}
use Rattle.completion.specs.Filling.{Gains}
use Rattle.completion.proofs.body_clauses.imply_each.Given as goal

abbrev pub invariant-loop-lit : goal.invariant-loop-lit
invariant-loop-lit l =
    Gains l.initial.store l.store
    (cleaned (map (λ lit. negative l.var.0 ∷ lit ∷ []) (take l.lit-index l.lits)))
