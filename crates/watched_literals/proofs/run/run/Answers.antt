use Rattle.std.proofs.Common.{◌≡◌, ◌∙◌, ap, arith, length, sym}
use Rattle.clause_store.specs.Trail.{Assigned}
use Rattle.propagator.specs.Fixpoint.{Extends}
use Rattle.propagator.proofs.ExtendLemmas.{extending_goes_on}
use Rattle.watched_literals.proofs.QuietLemmas.{all_quiet}
use Rattle.watched_literals.proofs.run.run.Goals as goal

pub returns-in-Some-clause-extends : goal.returns-in-Some-clause-extends
returns-in-Some-clause-extends c =
    extending_goes_on c.args.trail.now c.passes.trail c.follow.new.trail
    c.passes.invariant.extends c.follow.ensures.extends

three : (first second third fourth : Assigned) → Extends first second → Extends second third
    → Extends third fourth → Extends first fourth
three first second third fourth one two more =
    extending_goes_on first third fourth (extending_goes_on first second third one two) more

pub returns-in-Some-look_again-clause-extends : goal.returns-in-Some-look_again-clause-extends
returns-in-Some-look_again-clause-extends c =
    three c.args.trail.now c.passes.trail c.follow.new.trail c.look_again.new.trail
    c.passes.invariant.extends c.follow.ensures.extends c.look_again.ensures.extends

pub returns-then-steps-before-clause-none : goal.returns-then-steps-before-clause-none
returns-then-steps-before-clause-none c =
    let equal : length c.look_again.new.trail.steps ≡ length c.follow.new.trail.steps =
    ap length (sym c.steps.ensures.steps) ∙ c.if-steps-before.true
    ∙ ap length c.steps-before.ensures.steps in
    all_quiet c.args.store.now c.args.entries.now c.look_again.new.trail c.look_again.new.tables
    c.follow.new.next c.look_again.ensures.running
    (omega (arith, equal, c.in_default.ensures.none))
    (c.in_default-look_again.ensures.none equal)

pub returns-then-steps-before-clause-extends : goal.returns-then-steps-before-clause-extends
returns-then-steps-before-clause-extends c =
    three c.args.trail.now c.passes.trail c.follow.new.trail c.look_again.new.trail
    c.passes.invariant.extends c.follow.ensures.extends c.look_again.ensures.extends

pub passes-preserved : goal.passes-preserved
passes-preserved c = record {
  running = c.look_again.ensures.running;
  extends =
      three c.args.trail.now c.passes.trail c.follow.new.trail c.look_again.new.trail
      c.passes.invariant.extends c.follow.ensures.extends c.look_again.ensures.extends;
}
