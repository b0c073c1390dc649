use Rattle.propagator.proofs.ExtendLemmas.{extending_goes_on}
use Rattle.watched_literals.proofs.run.follow.Goals as goal

pub returns-in-Some-clause-extends : goal.returns-in-Some-clause-extends
returns-in-Some-clause-extends c =
    extending_goes_on c.args.trail.now c.loop-next.trail c.walk.new.trail
    c.loop-next.invariant.extends c.walk.ensures.extends

pub loop-next-preserved : goal.loop-next-preserved
loop-next-preserved c = record {
  running = c.in_default.ensures.none;
  extends =
      extending_goes_on c.args.trail.now c.loop-next.trail c.walk.new.trail
      c.loop-next.invariant.extends c.walk.ensures.extends;
}
