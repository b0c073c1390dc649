use Rattle.std.proofs.Common.{flat_map, take}
use Rattle.normal_program.specs.Clauses.{numbered_bodies, cleaned}
use Rattle.normal_program.specs.Spent.{inner_body_clauses}
use Rattle.completion.specs.Filling.{Gains}
use Rattle.completion.proofs.within.add_inner_bodies.Given as goal

abbrev pub invariant-loop-number : goal.invariant-loop-number
invariant-loop-number l =
    Gains l.initial.store l.store
    (cleaned
    (flat_map (inner_body_clauses l.normal l.set) (take l.number (numbered_bodies l.normal))))
