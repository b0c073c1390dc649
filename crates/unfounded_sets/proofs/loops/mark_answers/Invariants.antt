use Rattle.std.proofs.Common.{take}
use Rattle.unfounded_sets.specs.Wanted.{Wants}
use Rattle.unfounded_sets.proofs.loops.mark_answers.Given as goal

abbrev pub invariant-loop-rule : goal.invariant-loop-rule
invariant-loop-rule l =
    Wants l.normal l.trail.steps l.part (take l.rule-index l.rule-items) l.initial.wanted l.wanted
