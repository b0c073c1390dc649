use Rattle.byte_edges.proofs.CallerLemmas.{writes_then, writes_longer, writes_fault}
use Rattle.lparse_reader.specs.Text.{number_line, ended_lines}
use Rattle.lparse_reader.proofs.printing.print_atoms.Goals as goal

pub returns-in_err-write_bytes : goal.returns-in_err-write_bytes
returns-in_err-write_bytes g c =
    writes_fault c.from_residual.ensures.0
    (writes_longer (ended_lines number_line c.args.atoms.now) c.in_err-write_bytes.ensures)

pub returns : goal.returns
returns g c = writes_then c.in_ok-write_bytes.ensures c.print_lines.ensures
