use Rattle.std.proofs.Common.{◌≡◌, take}
use Rattle.weight_propagator.specs.Rows.{IsReason, taken_sum}
use Rattle.weight_propagator.proofs.reason.collect.Given as goal

abbrev pub invariant-loop-term : goal.invariant-loop-term
invariant-loop-term l =
    IsReason l.side l.trail.steps l.extra (take l.term-index l.term-items) l.reached l.initial.out
    l.out
    × (l.reached ≡ taken_sum l.side l.trail.steps l.extra (take l.term-index l.term-items))
