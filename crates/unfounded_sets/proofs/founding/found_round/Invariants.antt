use Rattle.std.proofs.Common.{take}
use Rattle.unfounded_sets.specs.Rounds.{Tries}
use Rattle.unfounded_sets.proofs.founding.found_round.Given as goal

abbrev pub invariant-loop-rule : goal.invariant-loop-rule
invariant-loop-rule l =
    Tries l.normal l.trail.steps (take l.rule-index l.rule-items) l.initial.founded l.founded l.grew
