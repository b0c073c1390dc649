use Rattle.std.proofs.Common.{codes}
use Rattle.byte_edges.proofs.CallerLemmas.{writes_then, writes_longer, writes_fault}
use Rattle.lparse_reader.proofs.printing.NamedLine.print.Goals as goal

pub returns-in_err-write_number_ended : goal.returns-in_err-write_number_ended
returns-in_err-write_number_ended g c =
    writes_fault c.from_residual.ensures.0
    (writes_longer (codes "\n")
    (writes_longer c.args.self.now.name c.in_err-write_number_ended.ensures))

pub returns-in_err-write_bytes : goal.returns-in_err-write_bytes
returns-in_err-write_bytes g c =
    let failed = rw c.as_slice.ensures at c.in_err-write_bytes.ensures in
    writes_fault c.from_residual-in_err-write_bytes.ensures.0
    (writes_longer (codes "\n") (writes_then c.in_ok-write_number_ended.ensures failed))

pub returns : goal.returns
returns g c =
    let name = rw c.as_slice.ensures at c.in_ok-write_bytes.ensures in
    writes_then (writes_then c.in_ok-write_number_ended.ensures name) c.write_bytes-2.ensures
