use Rattle.std.proofs.Common.{flat_map, take}
use Rattle.normal_program.specs.Clauses.{body_clauses, numbered_bodies, cleaned}
use Rattle.completion.specs.Filling.{Gains}
use Rattle.completion.proofs.body_clauses.add_bodies.Given as goal

abbrev pub invariant-loop-number : goal.invariant-loop-number
invariant-loop-number l =
    Gains l.initial.store l.store
    (cleaned (flat_map (body_clauses l.normal) (take l.number (numbered_bodies l.normal))))
