use Rattle.byte_edges.proofs.CallerLemmas.{writes_page}
use Rattle.lparse_reader.proofs.printing.print_line.Goals as goal

pub returns-in-Ok : goal.returns-in-Ok
returns-in-Ok g c =
    writes_page c.open-page.ensures c.in-Ok.ensures c.written.ensures c.write_bytes.ensures
