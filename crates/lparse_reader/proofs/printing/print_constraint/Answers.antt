use Rattle.std.proofs.Common.{◌∷◌, ◌++◌}
use Rattle.byte_edges.proofs.CallerLemmas.{writes_then, writes_longer, writes_fault}
use Rattle.lparse_reader.specs.Pieces.{body_atoms}
use Rattle.lparse_reader.specs.Text.{next_fields}
use Rattle.lparse_reader.proofs.lemmas.Writing.TextWrites.{counts, fields_then, fields_cut}
use Rattle.lparse_reader.proofs.printing.print_constraint.Goals as goal

pub returns-in_err-print_numbers : goal.returns-in_err-print_numbers
returns-in_err-print_numbers g c =
    let rule = c.args.rule.now in
    let failed = rw c.as_slice.ensures at c.in_err-print_numbers.ensures in
    fields_cut rule.heads (counts rule.body ++ rule.bound ∷ body_atoms rule.body)
    c.from_residual.ensures.0 failed

pub returns-in_err-print_counts : goal.returns-in_err-print_counts
returns-in_err-print_counts g c =
    let rule = c.args.rule.now in
    let heads = rw c.as_slice.ensures at c.in_ok-print_numbers.ensures in
    let failed = rw c.as_slice-2.ensures at c.in_err-print_counts.ensures in
    fields_then rule.heads (counts rule.body ++ rule.bound ∷ body_atoms rule.body) heads
    (fields_cut (counts rule.body) (rule.bound ∷ body_atoms rule.body)
    c.from_residual-in_err-print_counts.ensures.0 failed)

pub returns-in_err-print_number : goal.returns-in_err-print_number
returns-in_err-print_number g c =
    let rule = c.args.rule.now in
    let heads = rw c.as_slice.ensures at c.in_ok-print_numbers.ensures in
    let numbers = rw c.as_slice-2.ensures at c.in_ok-print_counts.ensures in
    fields_then rule.heads (counts rule.body ++ rule.bound ∷ body_atoms rule.body) heads
    (fields_then (counts rule.body) (rule.bound ∷ body_atoms rule.body) numbers
    (writes_fault c.from_residual-in_err-print_number.ensures.0
    (writes_longer (next_fields (body_atoms rule.body)) c.in_err-print_number.ensures)))

pub returns : goal.returns
returns g c =
    let rule = c.args.rule.now in
    let heads = rw c.as_slice.ensures at c.in_ok-print_numbers.ensures in
    let numbers = rw c.as_slice-2.ensures at c.in_ok-print_counts.ensures in
    fields_then rule.heads (counts rule.body ++ rule.bound ∷ body_atoms rule.body) heads
    (fields_then (counts rule.body) (rule.bound ∷ body_atoms rule.body) numbers
    (writes_then c.in_ok-print_number.ensures
    (rw c.as_slice-3.ensures at c.print_literals.ensures)))
