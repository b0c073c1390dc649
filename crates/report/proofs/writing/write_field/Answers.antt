use Rattle.byte_edges.proofs.CallerLemmas.{writes_then, writes_longer, writes_fault}
use Rattle.report.proofs.writing.write_field.Goals as goal

pub returns-in_err-write_bytes : goal.returns-in_err-write_bytes
returns-in_err-write_bytes g c =
    writes_fault c.from_residual.ensures.0 (writes_longer _ c.in_err-write_bytes.ensures)

pub returns : goal.returns
returns g c =
    writes_then c.in_ok-write_bytes.ensures c.write_bytes-2.ensures
