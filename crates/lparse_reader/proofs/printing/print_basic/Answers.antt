use Rattle.std.proofs.Common.{◌++◌}
use Rattle.lparse_reader.specs.Pieces.{body_atoms}
use Rattle.lparse_reader.proofs.lemmas.Writing.TextWrites.{counts, fields_then, fields_cut}
use Rattle.lparse_reader.proofs.printing.print_basic.Goals as goal

pub returns-in_err-print_numbers : goal.returns-in_err-print_numbers
returns-in_err-print_numbers g c =
    let body = c.args.rule.now.body in
    let failed = rw c.as_slice.ensures at c.in_err-print_numbers.ensures in
    fields_cut c.args.rule.now.heads (counts body ++ body_atoms body) c.from_residual.ensures.0
    failed

pub returns-in_err-print_counts : goal.returns-in_err-print_counts
returns-in_err-print_counts g c =
    let body = c.args.rule.now.body in
    let heads = rw c.as_slice.ensures at c.in_ok-print_numbers.ensures in
    let failed = rw c.as_slice-2.ensures at c.in_err-print_counts.ensures in
    fields_then c.args.rule.now.heads (counts body ++ body_atoms body) heads
    (fields_cut (counts body) (body_atoms body) c.from_residual-in_err-print_counts.ensures.0
    failed)

pub returns : goal.returns
returns g c =
    let body = c.args.rule.now.body in
    let heads = rw c.as_slice.ensures at c.in_ok-print_numbers.ensures in
    let numbers = rw c.as_slice-2.ensures at c.in_ok-print_counts.ensures in
    fields_then c.args.rule.now.heads (counts body ++ body_atoms body) heads
    (fields_then (counts body) (body_atoms body) numbers
    (rw c.as_slice-3.ensures at c.print_literals.ensures))
