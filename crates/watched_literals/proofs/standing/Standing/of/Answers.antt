use Rattle.std.proofs.Common.{◌+◌, ◌∙◌, sym, subst, take}
use Rattle.watched_literals.specs.Standings.{HasNoneTrue, IsStanding}
use Rattle.watched_literals.proofs.StandingLemmas.{stands_more_false, stands_more_unset}
use Rattle.watched_literals.proofs.standing.Standing.of.Goals as goal
use Rattle.watched_literals.proofs.standing.Standing.of.Goals.{in-No, in-Unset}

pub loop-lit-preserved : goal.loop-lit-preserved
loop-lit-preserved c =
    elim c.match-value.branch [
      | in-No w ↦
          subst
          (λ standing. HasNoneTrue c.args.trail.now.steps
          (take (c.loop-lit.lit-index + 1) c.args.clause.now)
          × IsStanding c.args.trail.now.steps
          (take (c.loop-lit.lit-index + 1) c.args.clause.now) standing)
          (sym w.standing-is)
          (stands_more_false c.args.trail.now.steps c.args.clause.now c.loop-lit.lit-index _
          c.loop-lit.standing c.value.result
          c.loop-lit-test.true c.value.ensures w.in-No.is c.loop-lit.invariant)
      | in-Unset w ↦
          stands_more_unset c.args.trail.now.steps c.args.clause.now c.loop-lit.lit-index _
          c.loop-lit.standing c.match-value.standing c.value.result
          c.requires.clause.once c.loop-lit-test.true c.value.ensures w.in-Unset.is
          (λ same. w.standing-is ∙ w.with_unset-standing.ensures.first same)
          (λ other. w.standing-is ∙ w.with_unset-standing.ensures.later other)
          c.loop-lit.invariant
    ]
