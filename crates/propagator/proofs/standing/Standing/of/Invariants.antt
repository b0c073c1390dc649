use Rattle.std.proofs.Common.{take}
use Rattle.propagator.specs.Standings.{HasNoneTrue, IsStanding}
use Rattle.propagator.proofs.standing.Standing.of.Given as goal

abbrev pub invariant-loop-lit : goal.invariant-loop-lit
invariant-loop-lit l =
    HasNoneTrue l.trail.steps (take l.lit-index l.clause)
    × IsStanding l.trail.steps (take l.lit-index l.clause) l.standing
