use Rattle.std.proofs.Common.{◌+◌, sym, ◌∙◌, arith}
use Rattle.report_reader.proofs.LoopLemmas.{set_begins, set_next, set_done, set_over}
use Rattle.report_reader.proofs.set_text.set_of.Goals as goal

pub loop-before-init : goal.loop-before-init
loop-before-init c =
    rw (c.in_ok-push.ensures.ok, c.open-set.ensures)
    (set_begins c.args.atoms c.args.numbers.now)

pub returns-in-empty : goal.returns-in-empty
returns-in-empty c =
    sym c.loop-before.invariant
    ∙ set_done c.loop-before.set c.args.atoms c.loop-before.before (c.loop-before.before + 1)
    c.loop-before.left.now c.loop-before-test.false (omega (arith, c.in-empty.len_below))

pub loop-before-preserved : goal.loop-before-preserved
loop-before-preserved c =
    rw (
      c.in_ok-push-2.ensures.ok,
      c.split_first-holds.ensures.first,
      c.split_first-holds.ensures.others,
    )
    (sym (set_next c.loop-before.set c.args.atoms c.loop-before.before c.loop-before.left.now
    c.loop-before-test.true)
    ∙ c.loop-before.invariant)

pub returns-in_default : goal.returns-in_default
returns-in_default c =
    sym c.loop-before.invariant
    ∙ set_over c.loop-before.set c.args.atoms c.loop-before.before (c.loop-before.before + 1)
    c.loop-before.left.now c.loop-before-test.false c.in_default.len_at_least
