use Rattle.byte_edges.proofs.CallerLemmas.{wrote_fault, wrote_more}
use Rattle.report.specs.Text.{text_of_line}
use Rattle.query_run.proofs.telling.write_lines.Goals as goal

pub returns-in_err-write_line : goal.returns-in_err-write_line
returns-in_err-write_line g c =
    wrote_fault (text_of_line c.args.names.now) c.args.lines.now c.line-item.result
    c.loop-line.line-index c.line-item.result c.from_residual.ensures.0 c.loop-line-test.true
    c.line-item.is c.loop-line.invariant c.in_err-write_line.ensures

pub loop-line-preserved : goal.loop-line-preserved
loop-line-preserved g c =
    wrote_more (text_of_line c.args.names.now) c.args.lines.now c.line-item.result
    c.loop-line.line-index c.line-item.result c.loop-line-test.true c.line-item.is
    c.loop-line.invariant c.in_ok-write_line.ensures
