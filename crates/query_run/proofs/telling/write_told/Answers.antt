use Rattle.std.proofs.Common.{◌≡◌, sym}
use Rattle.std.proofs.lemmas.Grind.{flat_map-append}
use Rattle.byte_edges.proofs.CallerLemmas.{writes_fault, writes_longer, writes_ok, writes_same}
use Rattle.byte_edges.proofs.CallerLemmas.{writes_then}
use Rattle.report.specs.Text.{text_of_line}
use Rattle.query_run.proofs.telling.write_told.Goals as goal

pub returns-in_err-write_lines-clause-written : goal.returns-in_err-write_lines-clause-written
returns-in_err-write_lines-clause-written g c =
    writes_same (sym (flat_map-append (text_of_line c.args.names.now) c.args.told.now _))
    (writes_fault c.from_residual.ensures.0 (writes_longer _ c.in_err-write_lines.ensures))

pub returns-in_err-write_first_sizes-clause-written : goal.returns-in_err-write_first_sizes-clause-written
returns-in_err-write_first_sizes-clause-written g c =
    let same : c.do_settle-sized.result ≡ _ = c.do_settle-sized.ensures in
    writes_same (sym (flat_map-append (text_of_line c.args.names.now) c.args.told.now _))
    (writes_then c.in_ok-write_lines.ensures
    (writes_fault c.from_residual-in_err-write_first_sizes.ensures.0
    (rw same at c.in_err-write_first_sizes.ensures)))

pub returns-clause-written : goal.returns-clause-written
returns-clause-written g c =
    let same : c.do_settle-sized.result ≡ _ = c.do_settle-sized.ensures in
    writes_same (sym (flat_map-append (text_of_line c.args.names.now) c.args.told.now _))
    (writes_then c.in_ok-write_lines.ensures (writes_ok (rw same at c.in_ok-write_first_sizes.ensures)))
