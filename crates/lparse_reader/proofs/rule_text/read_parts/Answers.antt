use Rattle.std.proofs.lemmas.Result.{err_from_is_err_and}
use Rattle.lparse_reader.specs.Fields.{behind, counted_at, part_at}
use Rattle.lparse_reader.proofs.lemmas.Calls.LoopLemmas.{counted_goes_on, counted_stops}
use Rattle.lparse_reader.proofs.lemmas.Calls.LoopLemmas.{counted_done}
use Rattle.lparse_reader.proofs.rule_text.read_parts.Goals as goal

pub returns-in_err-part : goal.returns-in_err-part
returns-in_err-part c =
    let stop = err_from_is_err_and c.from_residual.result c.from_residual.ensures.1 in
    rw (stop.1, stop.2)
    (counted_stops c.in_err-part.field-0.0 (part_at c.args.negated) c.loop.body c.args.count
    c.loop.counter c.loop.rest.now
    (behind c.args.before (counted_at (part_at c.args.negated) c.args.count c.args.bytes.now))
    c.loop-test.true c.in_err-part.ensures c.loop.invariant)

pub loop-preserved : goal.loop-preserved
loop-preserved c =
    rw c.in_ok-push.ensures.ok
    (counted_goes_on (part_at c.args.negated) c.loop.body c.args.count c.loop.counter
    c.loop.rest.now c.in_ok-part.part c.in_ok-part.after.now
    (behind c.args.before (counted_at (part_at c.args.negated) c.args.count c.args.bytes.now))
    c.loop-test.true c.in_ok-part.ensures c.loop.invariant)

pub returns : goal.returns
returns c =
    counted_done (part_at c.args.negated) c.loop.body c.args.count c.loop.counter c.loop.rest.now
    (behind c.args.before (counted_at (part_at c.args.negated) c.args.count c.args.bytes.now))
    c.loop-test.false c.loop.invariant
