use Rattle.std.proofs.Common.{sym, codes}
use Rattle.report.specs.Text.{positions_from}
use Rattle.byte_edges.proofs.CallerLemmas.{writes_then, writes_longer, writes_fault, writes_same}
use Rattle.report.proofs.WritingLemmas.{fields_first}
use Rattle.report.proofs.writing.write_answer.Goals as goal

pub returns-in_err-write_fields : goal.returns-in_err-write_fields
returns-in_err-write_fields g c =
    writes_fault c.from_residual.ensures.0
    (writes_same
    (sym (fields_first (codes "ANSWER") c.args.number (positions_from 0 c.args.set.now)))
    (writes_longer _ c.in_err-write_fields.ensures))

pub returns : goal.returns
returns g c =
    writes_same
    (sym (fields_first (codes "ANSWER") c.args.number (positions_from 0 c.args.set.now)))
    (writes_then c.in_ok-write_fields.ensures c.write_positions.ensures)
