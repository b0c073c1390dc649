use Rattle.std.proofs.Common.{◌∙◌, ◌+◌, ℕ, subst}
use Rattle.propagator.proofs.ExtendLemmas.{extending_goes_on}
use Rattle.watched_literals.specs.Walking.{IsRunning}
use Rattle.watched_literals.proofs.RunLemmas.{ends}
use Rattle.watched_literals.proofs.walk.walk.Goals as goal

pub returns-then-pass-clause-extends : goal.returns-then-pass-clause-extends
returns-then-pass-clause-extends c =
    extending_goes_on c.args.trail.now c.loop-cursor.trail c.pass.new.trail
    c.loop-cursor.invariant.extends c.pass.ensures.extends

pub loop-cursor-preserved : goal.loop-cursor-preserved
loop-cursor-preserved c = record {
  walking = (c.pass.ensures.goes c.if-pass.false).walking;
  extends =
      extending_goes_on c.args.trail.now c.loop-cursor.trail c.pass.new.trail
      c.loop-cursor.invariant.extends c.pass.ensures.extends;
  same_place = c.pass.ensures.place ∙ c.loop-cursor.invariant.same_place;
}

pub returns-clause-none : goal.returns-clause-none
returns-clause-none c =
    subst
    (λ (place : ℕ). IsRunning c.args.store.now c.args.entries.now c.loop-cursor.trail
    c.loop-cursor.tables (place + 1)) c.loop-cursor.invariant.same_place
    (ends c.args.store.now c.args.entries.now c.loop-cursor.trail c.loop-cursor.tables
    c.loop-cursor.cursor c.loop-cursor.invariant.walking c.loop-cursor-test.false)
