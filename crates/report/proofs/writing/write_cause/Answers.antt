use Rattle.byte_edges.proofs.CallerLemmas.{writes_then, writes_longer, writes_fault}
use Rattle.report.proofs.writing.write_cause.Goals as goal

pub returns-in_err-write_fields : goal.returns-in_err-write_fields
returns-in_err-write_fields g c =
    writes_fault c.from_residual.ensures.0 (writes_longer _ c.in_err-write_fields.ensures)

pub returns : goal.returns
returns g c =
    writes_then c.in_ok-write_fields.ensures (rw c.text_of.ensures at c.write_field.ensures)
