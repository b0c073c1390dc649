use Rattle.std.proofs.Common.{◌∙◌, sym, ap, length}
use Rattle.propagator.proofs.ExtendLemmas.{extending_goes_on}
use Rattle.propagator.proofs.plain.scan.Goals as goal

pub returns-in-Some-clause-extends : goal.returns-in-Some-clause-extends
returns-in-Some-clause-extends c =
    extending_goes_on c.args.trail.now c.passes.trail c.pass.new.trail c.passes.invariant.0
    c.pass.ensures.extends

pub returns-then-steps-before-clause-none : goal.returns-then-steps-before-clause-none
returns-then-steps-before-clause-none c =
    c.in_default.ensures.none
    (ap length (sym c.steps.ensures.steps) ∙ c.if-steps-before.true
    ∙ ap length c.steps-before.ensures.steps)

pub passes-preserved : goal.passes-preserved
passes-preserved c = (
  extending_goes_on c.args.trail.now c.passes.trail c.pass.new.trail c.passes.invariant.0
      c.pass.ensures.extends,
  c.pass.ensures.of_store,
)
