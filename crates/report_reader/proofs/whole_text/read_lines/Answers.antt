use Rattle.std.proofs.Common.{rules, ◌≡◌, ◌≤◌, length, arith}
use Rattle.report_reader.proofs.LoopLemmas.{first_shorter, read_more, read_stops}
use Rattle.report_reader.proofs.whole_text.read_lines.Goals as goal

pub loop-rest-smaller : goal.loop-rest-smaller
loop-rest-smaller c =
    let shorter =
    first_shorter c.args.atoms c.args.names.now c.loop-rest.rest.now c.in-Some.line
    c.in-Some.after.now (rw c.in-Some.is at c.in_ok-line.ensures) in
    omega (arith, shorter)

pub loop-rest-preserved : goal.loop-rest-preserved
loop-rest-preserved c =
    rw c.in_ok-push-in-Some.ensures.items
    (read_more c.args.atoms c.args.names.now c.args.text.now c.loop-rest.lines.items
    c.loop-rest.rest.now c.in-Some.line c.in-Some.after.now c.loop-rest.invariant
    (rw c.in-Some.is at c.in_ok-line.ensures))

pub returns-in-None-clause-refused : goal.returns-in-None-clause-refused
returns-in-None-clause-refused c =
    let some : 1 ≤ length c.loop-rest.rest.now = search rules in
    let len : c.len.result ≡ length c.loop-rest.lines.items = search rules in
    rw len
    (read_stops c.args.atoms c.args.names.now c.args.text.now c.loop-rest.lines.items
    c.loop-rest.rest.now c.ranges.atoms.fits c.requires.one_line c.loop-rest.invariant some
    (rw c.in-None.is at c.in_ok-line.ensures))
