use Rattle.byte_edges.proofs.CallerLemmas.{writes_then, writes_longer, writes_fault}
use Rattle.report.proofs.writing.write_refusal.Goals as goal

pub returns-in_err-write_cause : goal.returns-in_err-write_cause
returns-in_err-write_cause g c =
    writes_fault c.from_residual.ensures.0 (writes_longer _ c.in_err-write_cause.ensures)

pub returns : goal.returns
returns g c =
    writes_then c.in_ok-write_cause.ensures c.write_number_after.ensures
