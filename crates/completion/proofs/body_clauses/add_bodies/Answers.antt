use Rattle.std.proofs.Common.{arith}
use Rattle.normal_program.specs.Clauses.{body_clauses, numbered_bodies}
use Rattle.completion.proofs.AddsLemmas.{Adds-stopped, flat_more, flat_stopped, numbered_of}
use Rattle.completion.proofs.AddsLemmas.{all_numbered}
use Rattle.completion.proofs.body_clauses.add_bodies.Goals as goal

pub loop-number-preserved : goal.loop-number-preserved
loop-number-preserved c =
    let normal = c.args.normal.now in
    let number = c.loop-number.number in
    let body = c.body-item.result in
    flat_more (body_clauses normal) c.args.store.now c.loop-number.store c.add_body.new.store
    (numbered_bodies normal) number (number, body)
    (numbered_of c.as_slice-body-items.result.now normal.bodies number body
    c.as_slice-body-items.ensures c.loop-number-test.true c.body-item.is)
    c.loop-number.invariant c.in_ok-add_body.ensures

pub returns-in_err-add_body : goal.returns-in_err-add_body
returns-in_err-add_body c =
    let normal = c.args.normal.now in
    let number = c.loop-number.number in
    let body = c.body-item.result in
    Adds-stopped c.from_residual.result c.args.store.now c.add_body.new.store _
    c.from_residual.ensures.0
    (flat_stopped (body_clauses normal) c.args.store.now c.loop-number.store c.add_body.new.store
    (numbered_bodies normal) number (number, body)
    (numbered_of c.as_slice-body-items.result.now normal.bodies number body
    c.as_slice-body-items.ensures c.loop-number-test.true c.body-item.is)
    c.loop-number.invariant c.in_err-add_body.ensures)

pub returns : goal.returns
returns c =
    let normal = c.args.normal.now in
    all_numbered (body_clauses normal) c.args.store.now c.loop-number.store
    c.as_slice-body-items.result.now normal.bodies c.loop-number.number
    c.as_slice-body-items.ensures (omega (arith, c.loop-number-test.false)) c.loop-number.invariant
