use Rattle.std.proofs.Common.{◌++◌}
use Rattle.byte_edges.proofs.CallerLemmas.{writes_then, writes_longer, writes_fault}
use Rattle.lparse_reader.specs.Pieces.{body_atoms}
use Rattle.lparse_reader.specs.Text.{next_fields}
use Rattle.lparse_reader.proofs.lemmas.Writing.TextWrites.{counts, fields_then, fields_cut}
use Rattle.lparse_reader.proofs.printing.print_many_heads.Goals as goal

pub returns-in_err-print_number : goal.returns-in_err-print_number
returns-in_err-print_number g c =
    let rule = c.args.rule.now in
    let failed = rw c.len.ensures at c.in_err-print_number.ensures in
    writes_fault c.from_residual.ensures.0
    (writes_longer (next_fields (rule.heads ++ (counts rule.body ++ body_atoms rule.body)))
    failed)

pub returns-in_err-print_numbers : goal.returns-in_err-print_numbers
returns-in_err-print_numbers g c =
    let rule = c.args.rule.now in
    let many = rw c.len.ensures at c.in_ok-print_number.ensures in
    let failed = rw c.as_slice.ensures at c.in_err-print_numbers.ensures in
    writes_then many
    (fields_cut rule.heads (counts rule.body ++ body_atoms rule.body)
    c.from_residual-in_err-print_numbers.ensures.0 failed)

pub returns-in_err-print_counts : goal.returns-in_err-print_counts
returns-in_err-print_counts g c =
    let rule = c.args.rule.now in
    let many = rw c.len.ensures at c.in_ok-print_number.ensures in
    let heads = rw c.as_slice.ensures at c.in_ok-print_numbers.ensures in
    let failed = rw c.as_slice-2.ensures at c.in_err-print_counts.ensures in
    writes_then many (fields_then rule.heads (counts rule.body ++ body_atoms rule.body) heads
    (fields_cut (counts rule.body) (body_atoms rule.body)
    c.from_residual-in_err-print_counts.ensures.0 failed))

pub returns : goal.returns
returns g c =
    let rule = c.args.rule.now in
    let many = rw c.len.ensures at c.in_ok-print_number.ensures in
    let heads = rw c.as_slice.ensures at c.in_ok-print_numbers.ensures in
    let numbers = rw c.as_slice-2.ensures at c.in_ok-print_counts.ensures in
    writes_then many (fields_then rule.heads (counts rule.body ++ body_atoms rule.body) heads
    (fields_then (counts rule.body) (body_atoms rule.body) numbers
    (rw c.as_slice-3.ensures at c.print_literals.ensures)))
