use Rattle.std.proofs.Common.{◌<◌, arith, length}
use Rattle.watched_literals.proofs.AgainLemmas.{again_lits}
use Rattle.watched_literals.proofs.LayingLemmas.{laid_by}
use Rattle.watched_literals.proofs.SeatLemmas.{named_over}
use Rattle.watched_literals.proofs.laying.choose_all.Goals as goal

pub loop-row-preserved : goal.loop-row-preserved
loop-row-preserved c =
    let within : c.loop-row.row < length c.args.entries.now =
    omega (arith, c.loop-row-test.true) in
    laid_by c.args.entries.now c.args.trail.now c.loop-row.tables c.seat.new.self
    c.loop-row.row c.lits.result.now c.of-left.result c.loop-row.invariant within
    c.requires.level
    (named_over c.args.trail.now.vars c.args.store.now c.at.result.0 c.lits.result.now
    c.requires.running.over c.lits.ensures.lits)
    (again_lits c.args.store.now c.args.entries.now c.loop-row.row c.index-entries-row.result
    c.at.result c.lits.result.now c.requires.running.named within c.index-entries-row.is
    c.at.ensures c.lits.ensures.lits)
    c.of-left.ensures c.seat.ensures
