use Rattle.byte_edges.proofs.CallerLemmas.{writes_then, writes_longer, writes_fault}
use Rattle.report.proofs.WritingLemmas.{name_at}
use Rattle.report.proofs.writing.write_named.Goals as goal

pub returns-in_err-write_fields : goal.returns-in_err-write_fields
returns-in_err-write_fields g c =
    writes_fault c.from_residual.ensures.0 (writes_longer _ c.in_err-write_fields.ensures)

pub returns : goal.returns
returns g c =
    let name =
    name_at c.args.names.now c.args.cand c.get-named.result.now c.as_slice.result.now
    c.get-named.ensures c.as_slice.ensures in
    writes_then c.in_ok-write_fields.ensures (rw (← name) at c.write_field.ensures)
