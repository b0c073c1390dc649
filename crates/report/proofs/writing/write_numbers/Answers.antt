use Rattle.byte_edges.proofs.CallerLemmas.{writes_none, wrote_more, wrote_fault, wrote_all}
use Rattle.report.proofs.WritingLemmas.{number_field}
use Rattle.report.proofs.writing.write_numbers.Goals as goal

pub loop-number-init : goal.loop-number-init
loop-number-init g c = writes_none c.args.sink.now

pub loop-number-preserved : goal.loop-number-preserved
loop-number-preserved g c =
    wrote_more number_field c.args.numbers.now 0 c.loop-number.number-index c.from.result
    c.loop-number-test.true c.from.ensures c.loop-number.invariant
    c.in_ok-write_number_after.ensures

pub returns-in_err-write_number_after : goal.returns-in_err-write_number_after
returns-in_err-write_number_after g c =
    wrote_fault number_field c.args.numbers.now 0 c.loop-number.number-index c.from.result
    c.from_residual.ensures.0 c.loop-number-test.true c.from.ensures c.loop-number.invariant
    c.in_err-write_number_after.ensures

pub returns : goal.returns
returns g c =
    wrote_all number_field c.args.numbers.now c.loop-number.number-index c.loop-number-test.false
    c.loop-number.invariant
