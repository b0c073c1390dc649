use Rattle.std.proofs.Common.{◌≡◌, false, take, sym}
use Rattle.std.proofs.lemmas.List.{take_all}
use Rattle.byte_edges.proofs.CallerLemmas.{writes_none, writes_then, writes_longer, writes_fault}
use Rattle.byte_edges.proofs.CallerLemmas.{writes_same}
use Rattle.report.proofs.WritingLemmas.{positions_true, positions_false, positions_around}
use Rattle.report.proofs.writing.write_each.Goals.{then-holds+in_ok-write_number_after}
use Rattle.report.proofs.writing.write_each.Goals.{else-holds}
use Rattle.report.proofs.writing.write_each.Goals as goal

pub loop-at-init : goal.loop-at-init
loop-at-init g c = writes_none c.args.sink.now

pub loop-at-preserved : goal.loop-at-preserved
loop-at-preserved g c =
    elim c.if-holds.branch [
      | then-holds+in_ok-write_number_after w ↦
          rw w.sink-is
          (writes_same
          (sym
          (positions_true c.args.block.now c.args.from c.loop-at.at false
          c.loop-at-test.true w.if-holds.true))
          (writes_then c.loop-at.invariant w.in_ok-write_number_after.ensures))
      | else-holds w ↦
          rw (
            w.sink-is,
            positions_false c.args.block.now c.args.from c.loop-at.at false
                c.loop-at-test.true w.if-holds.false,
          )
          c.loop-at.invariant
    ]

pub returns-in_err-write_number_after : goal.returns-in_err-write_number_after
returns-in_err-write_number_after g c =
    writes_fault c.from_residual.ensures.0
    (writes_same
    (sym
    (positions_around c.args.block.now c.args.from c.loop-at.at false
    c.loop-at-test.true c.if-holds.true))
    (writes_longer _ (writes_then c.loop-at.invariant c.in_err-write_number_after.ensures)))

pub returns : goal.returns
returns g c =
    let all : take c.loop-at.at c.args.block.now ≡ c.args.block.now =
    take_all c.loop-at.at c.args.block.now c.loop-at-test.false in
    rw all at c.loop-at.invariant
