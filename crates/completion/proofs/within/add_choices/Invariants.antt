use Rattle.std.proofs.Common.{flat_map, take}
use Rattle.normal_program.specs.Clauses.{cleaned}
use Rattle.normal_program.specs.Spent.{inner_choice_clauses}
use Rattle.completion.specs.Filling.{Gains}
use Rattle.completion.proofs.within.add_choices.Given as goal

abbrev pub invariant-loop-rule : goal.invariant-loop-rule
invariant-loop-rule l =
    Gains l.initial.store l.store
    (cleaned
    (flat_map (inner_choice_clauses l.normal l.set) (take l.rule-index l.normal.rules)))
