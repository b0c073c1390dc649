use Rattle.byte_edges.proofs.CallerLemmas.{wrote_more}
use Rattle.lparse_reader.specs.Text.{number_line}
use Rattle.lparse_reader.proofs.lemmas.Writing.TextWrites.{lines_then, lines_cut}
use Rattle.lparse_reader.proofs.printing.print_lines.Goals as goal

pub returns-in_err-print_line : goal.returns-in_err-print_line
returns-in_err-print_line g c =
    lines_cut g.T.Line.line c.args.items.now c.loop-item.item-index c.item-item.result
    (number_line 0) c.from_residual.ensures.0
    c.loop-item-test.true c.item-item.is c.loop-item.invariant c.in_err-print_line.ensures

pub loop-item-preserved : goal.loop-item-preserved
loop-item-preserved g c =
    wrote_more g.T.Line.line c.args.items.now c.item-item.result c.loop-item.item-index
    c.item-item.result
    c.loop-item-test.true c.item-item.is c.loop-item.invariant c.in_ok-print_line.ensures

pub returns : goal.returns
returns g c =
    lines_then g.T.Line.line c.args.items.now c.loop-item.item-index c.loop-item-test.false
    c.loop-item.invariant c.print.ensures
