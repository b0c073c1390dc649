use Rattle.std.proofs.Common.{length}
use Rattle.std.proofs.lemmas.Result.{err_from_is_err_and}
use Rattle.lparse_reader.specs.Fields.{until_end_at, entry_or_end_at}
use Rattle.lparse_reader.proofs.lemmas.Calls.LoopLemmas.{until_goes_on, until_stops, until_done}
use Rattle.lparse_reader.proofs.lemmas.Calls.LoopLemmas.{until_out}
use Rattle.lparse_reader.proofs.symbol_text.read_names.Goals as goal

pub returns-in_err-named : goal.returns-in_err-named
returns-in_err-named c =
    let bytes = c.args.bytes.now in
    let stop = err_from_is_err_and c.from_residual.result c.from_residual.ensures.1 in
    rw (stop.1, stop.2)
    (until_stops c.in_err-named.field-0.0 entry_or_end_at c.loop.names (length bytes)
    c.loop.counter c.loop.rest.now
    (until_end_at entry_or_end_at (length bytes) bytes) c.loop-test.true c.in_err-named.ensures
    c.loop.invariant)

pub returns-in-None : goal.returns-in-None
returns-in-None c =
    let bytes = c.args.bytes.now in
    until_done entry_or_end_at c.loop.names (length bytes) c.loop.counter c.loop.rest.now
    c.in_ok-named.after.now
    (until_end_at entry_or_end_at (length bytes) bytes) c.loop-test.true
    (rw (← c.in-None.is) c.in_ok-named.ensures) c.loop.invariant

pub loop-preserved : goal.loop-preserved
loop-preserved c =
    let bytes = c.args.bytes.now in
    rw c.in_ok-push-in-Some.ensures.ok
    (until_goes_on entry_or_end_at c.loop.names (length bytes) c.loop.counter c.loop.rest.now
    c.in-Some.named c.in_ok-named.after.now
    (until_end_at entry_or_end_at (length bytes) bytes) c.loop-test.true
    (rw (← c.in-Some.is) c.in_ok-named.ensures) c.loop.invariant)

pub returns : goal.returns
returns c =
    let bytes = c.args.bytes.now in
    until_out entry_or_end_at c.loop.names (length bytes) c.loop.counter c.loop.rest.now
    (until_end_at entry_or_end_at (length bytes) bytes) c.loop-test.false c.loop.invariant
