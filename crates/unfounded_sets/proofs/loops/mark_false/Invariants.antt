use Rattle.std.proofs.Common.{take}
use Rattle.unfounded_sets.specs.Wanted.{MarksFalse}
use Rattle.unfounded_sets.proofs.loops.mark_false.Given as goal

abbrev pub invariant-loop-it : goal.invariant-loop-it
invariant-loop-it l =
    MarksFalse l.trail.steps (take l.it-index l.it-items) l.initial.wanted l.wanted
