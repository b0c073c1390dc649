use Rattle.std.proofs.Common.{◌-◌, get_or, sym, subst, arith}
use Rattle.conflict_learning.proofs.AssignedLemmas.{blank}
use Rattle.conflict_learning.proofs.CoreLemmas as lemma
use Rattle.conflict_learning.proofs.assumption_core.add_blanks.Goals as goal

pub loop-low-preserved : goal.loop-low-preserved
loop-low-preserved c =
    subst
    (λ core. lemma.IsBlanking c.args.trail.now.steps c.args.last c.args.core.now core
    (c.loop-low.low - 1)) (sym c.in_ok-push.ensures.ok)
    (lemma.blanking_more c.args.trail.now.steps c.args.last c.args.core.now c.loop-low.core
    c.loop-low.low (get_or c.steps-steps.result.now (c.loop-low.low - 1) blank)
    c.loop-low.invariant
    c.loop-low-test.true
    (lemma.read_there c.steps-steps.result.now c.args.trail.now.steps (c.loop-low.low - 1)
    c.steps-steps.ensures.steps
    (omega (arith, c.loop-low.invariant.order, c.requires, c.loop-low-test.true)))
    c.if-steps-low-gt0.true)

pub returns-else-steps-low-gt0 : goal.returns-else-steps-low-gt0
returns-else-steps-low-gt0 c =
    lemma.blanking_ends c.args.trail.now c.args.last c.args.core.now c.loop-low.core c.loop-low.low
    (get_or c.steps-steps.result.now (c.loop-low.low - 1) blank) c.steps-steps.ensures.trail
    c.loop-low.invariant c.loop-low-test.true
    (lemma.read_there c.steps-steps.result.now c.args.trail.now.steps (c.loop-low.low - 1)
    c.steps-steps.ensures.steps
    (omega (arith, c.loop-low.invariant.order, c.requires, c.loop-low-test.true)))
    (omega (arith, c.if-steps-low-gt0.false))
