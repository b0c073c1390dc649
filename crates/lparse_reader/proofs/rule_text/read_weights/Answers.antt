use Rattle.std.proofs.Common.{false}
use Rattle.std.proofs.lemmas.Result.{err_from_is_err_and}
use Rattle.lparse_reader.specs.Fields.{weighed_at}
use Rattle.lparse_reader.proofs.lemmas.Calls.LoopLemmas.{weighed_goes_on, weighed_stops}
use Rattle.lparse_reader.proofs.lemmas.Calls.LoopLemmas.{weighed_done}
use Rattle.lparse_reader.proofs.rule_text.read_weights.Goals as goal

pub returns-in_err-weight : goal.returns-in_err-weight
returns-in_err-weight c =
    let parts = c.args.parts.now in
    let stop = err_from_is_err_and c.from_residual.result c.from_residual.ensures.1 in
    rw (stop.1, stop.2)
    (weighed_stops c.in_err-weight.field-0.0 parts c.loop-part.body c.loop-part.part-index
    (record { lit = record { atom = 0; negated = false }; weight = 0 }) c.loop-part.rest.now
    (weighed_at parts c.args.bytes.now) c.loop-part-test.true c.in_err-weight.ensures
    c.loop-part.invariant)

pub loop-part-preserved : goal.loop-part-preserved
loop-part-preserved c =
    rw c.in_ok-push.ensures.ok
    (weighed_goes_on c.args.parts.now c.loop-part.body c.loop-part.part-index
    (record { lit = record { atom = 0; negated = false }; weight = 0 }) c.loop-part.rest.now
    c.in_ok-weight.weight c.in_ok-weight.after.now
    (weighed_at c.args.parts.now c.args.bytes.now) c.loop-part-test.true c.in_ok-weight.ensures
    c.loop-part.invariant)

pub returns : goal.returns
returns c =
    weighed_done c.args.parts.now c.loop-part.body c.loop-part.part-index c.loop-part.rest.now
    (weighed_at c.args.parts.now c.args.bytes.now) c.loop-part-test.false c.loop-part.invariant
