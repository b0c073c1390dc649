use Rattle.std.proofs.Common.{map, take}
use Rattle.normal_program.specs.Clauses.{negative, alone, cleaned}
use Rattle.completion.specs.Filling.{Gains}
use Rattle.completion.proofs.short_clauses.add_false.Given as goal

abbrev pub invariant-loop-atom : goal.invariant-loop-atom
invariant-loop-atom l =
    Gains l.initial.store l.store
    (cleaned (map (λ atom. alone (negative atom)) (take l.atom-index l.atoms)))
