use Rattle.std.proofs.Common.{◌≡◌, ◌≤◌, ◌+◌, length, take, sym, arith}
use Rattle.std.proofs.lemmas.List.{take_all}
use Rattle.byte_edges.proofs.CallerLemmas.{writes_none, writes_then, writes_longer, writes_fault}
use Rattle.byte_edges.proofs.CallerLemmas.{writes_same}
use Rattle.report.proofs.WritingLemmas.{positions_block, positions_rest}
use Rattle.report.proofs.writing.write_positions.Goals as goal

pub loop-at-init : goal.loop-at-init
loop-at-init g c = record { within = omega arith; wrote = writes_none c.args.sink.now }

pub loop-at-preserved : goal.loop-at-preserved
loop-at-preserved g c =
    let inside : c.loop-at.at + c.min-count.result ≤ length c.args.set.now =
    grind (arith, c.min-count.ensures, c.loop-at.invariant.within) in
    record {
      within = inside;
      wrote =
          writes_same
          (sym (positions_block c.args.set.now c.loop-at.at c.min-count.result inside))
          (writes_then c.loop-at.invariant.wrote
          (rw c.block_of.ensures at c.in_ok-write_block.ensures));
    }

pub returns-in_err-write_block : goal.returns-in_err-write_block
returns-in_err-write_block g c =
    let inside : c.loop-at.at + c.min-count.result ≤ length c.args.set.now =
    grind (arith, c.min-count.ensures, c.loop-at.invariant.within) in
    writes_fault c.from_residual.ensures.0
    (writes_same
    (sym (positions_rest c.args.set.now c.loop-at.at c.min-count.result inside))
    (writes_longer _
    (writes_then c.loop-at.invariant.wrote
    (rw c.block_of.ensures at c.in_err-write_block.ensures))))

pub returns : goal.returns
returns g c =
    let all : take c.loop-at.at c.args.set.now ≡ c.args.set.now =
    take_all c.loop-at.at c.args.set.now c.loop-at-test.false in
    rw all at c.loop-at.invariant.wrote
