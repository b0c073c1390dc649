use Rattle.std.proofs.Common.{rules, ◌≡◌, ◌≤◌, length, sym, ◌∙◌}
use Rattle.report_reader.proofs.FieldLemmas.{took_shorter, small_takes}
use Rattle.report_reader.proofs.LoopLemmas.{numbers_step, numbers_stop, numbers_end}
use Rattle.report_reader.proofs.set_text.read_numbers.Goals as goal

pub returns-in_default : goal.returns-in_default
returns-in_default c =
    let some : 1 ≤ length c.loop-rest.rest.now = search rules in
    sym c.loop-rest.invariant
    ∙ numbers_stop c.loop-rest.numbers.items c.loop-rest.rest.now some c.in_default.ensures

pub loop-rest-smaller : goal.loop-rest-smaller
loop-rest-smaller c =
    took_shorter c.loop-rest.rest.now c.in-Some.number c.in-Some.after.now
    (small_takes c.loop-rest.rest.now c.in-Some.number c.in-Some.after.now c.in-Some.ensures)

pub loop-rest-preserved : goal.loop-rest-preserved
loop-rest-preserved c =
    let some : 1 ≤ length c.loop-rest.rest.now = search rules in
    rw c.in_ok-push.ensures.items
    (sym (numbers_step c.loop-rest.numbers.items c.loop-rest.rest.now c.in-Some.number
    c.in-Some.after.now some c.in-Some.ensures)
    ∙ c.loop-rest.invariant)

pub returns : goal.returns
returns c =
    let none : length c.loop-rest.rest.now ≡ 0 = search rules in
    sym c.loop-rest.invariant
    ∙ numbers_end c.loop-rest.numbers.items c.loop-rest.rest.now none
