use Rattle.std.proofs.Common.{take}
use Rattle.watched_literals.specs.Standings.{HasNoneTrue, IsStanding}
use Rattle.watched_literals.proofs.standing.Standing.of.Given as goal

abbrev pub invariant-loop-lit : goal.invariant-loop-lit
invariant-loop-lit l =
    HasNoneTrue l.trail.steps (take l.lit-index l.clause)
    × IsStanding l.trail.steps (take l.lit-index l.clause) l.standing
