use Rattle.std.proofs.Common.{take}
use Rattle.unfounded_sets.specs.Single.{Marks}
use Rattle.unfounded_sets.proofs.single.mark_supported.Given as goal

abbrev pub invariant-loop-rule : goal.invariant-loop-rule
invariant-loop-rule l =
    Marks l.normal l.trail.steps (take l.rule-index l.rule-items) l.initial.supported l.supported
