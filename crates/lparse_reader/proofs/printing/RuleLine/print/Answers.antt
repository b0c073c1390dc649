use Rattle.std.proofs.Common.{codes}
use Rattle.byte_edges.proofs.CallerLemmas.{writes_then, writes_longer, writes_fault}
use Rattle.lparse_reader.specs.Pieces.{numbers_of_kind}
use Rattle.lparse_reader.specs.Text.{next_fields}
use Rattle.lparse_reader.proofs.printing.RuleLine.print.Goals as goal

pub returns-in_err-write_number : goal.returns-in_err-write_number
returns-in_err-write_number g c =
    let rule = c.args.self.now in
    let failed = rw c.number_of_kind.ensures at c.in_err-write_number.ensures in
    writes_fault c.from_residual.ensures.0
    (writes_longer (codes "\n")
    (writes_longer (next_fields (numbers_of_kind rule.kind rule.heads rule.bound rule.body))
    failed))

pub returns-in_err-print_fields : goal.returns-in_err-print_fields
returns-in_err-print_fields g c =
    let kind = rw c.number_of_kind.ensures at c.in_ok-write_number.ensures in
    writes_fault c.from_residual-in_err-print_fields.ensures.0
    (writes_longer (codes "\n") (writes_then kind c.in_err-print_fields.ensures))

pub returns : goal.returns
returns g c =
    let kind = rw c.number_of_kind.ensures at c.in_ok-write_number.ensures in
    writes_then (writes_then kind c.in_ok-print_fields.ensures) c.write_bytes.ensures
