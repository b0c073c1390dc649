use Rattle.std.proofs.Common.{take}
use Rattle.unfounded_sets.specs.Rounds.{AddsHeads}
use Rattle.unfounded_sets.proofs.founding.add_heads.Given as goal

abbrev pub invariant-loop-head : goal.invariant-loop-head
invariant-loop-head l =
    AddsHeads l.trail.steps (take l.head-index l.head-items) l.initial.founded l.founded l.grew
