use Rattle.std.proofs.Common.{◌∷◌, ◌++◌}
use Rattle.byte_edges.proofs.CallerLemmas.{writes_then, writes_longer, writes_fault}
use Rattle.lparse_reader.specs.Pieces.{body_atoms, body_weights}
use Rattle.lparse_reader.specs.Text.{next_fields}
use Rattle.lparse_reader.proofs.lemmas.Writing.TextWrites.{counts, fields_then, fields_cut}
use Rattle.lparse_reader.proofs.printing.print_weight.Goals as goal

pub returns-in_err-print_numbers : goal.returns-in_err-print_numbers
returns-in_err-print_numbers g c =
    let rule = c.args.rule.now in
    let failed = rw c.as_slice.ensures at c.in_err-print_numbers.ensures in
    fields_cut rule.heads
    (rule.bound ∷ (counts rule.body ++ (body_atoms rule.body ++ body_weights rule.body)))
    c.from_residual.ensures.0 failed

pub returns-in_err-print_number : goal.returns-in_err-print_number
returns-in_err-print_number g c =
    let rule = c.args.rule.now in
    let heads = rw c.as_slice.ensures at c.in_ok-print_numbers.ensures in
    let rest = counts rule.body ++ (body_atoms rule.body ++ body_weights rule.body) in
    fields_then rule.heads (rule.bound ∷ rest) heads
    (writes_fault c.from_residual-in_err-print_number.ensures.0
    (writes_longer (next_fields rest) c.in_err-print_number.ensures))

pub returns-in_err-print_counts : goal.returns-in_err-print_counts
returns-in_err-print_counts g c =
    let rule = c.args.rule.now in
    let heads = rw c.as_slice.ensures at c.in_ok-print_numbers.ensures in
    let failed = rw c.as_slice-2.ensures at c.in_err-print_counts.ensures in
    let rest = body_atoms rule.body ++ body_weights rule.body in
    fields_then rule.heads (rule.bound ∷ (counts rule.body ++ rest)) heads
    (writes_then c.in_ok-print_number.ensures
    (fields_cut (counts rule.body) rest c.from_residual-in_err-print_counts.ensures.0 failed))

pub returns-in_err-print_literals : goal.returns-in_err-print_literals
returns-in_err-print_literals g c =
    let rule = c.args.rule.now in
    let heads = rw c.as_slice.ensures at c.in_ok-print_numbers.ensures in
    let numbers = rw c.as_slice-2.ensures at c.in_ok-print_counts.ensures in
    let failed = rw c.as_slice-3.ensures at c.in_err-print_literals.ensures in
    let rest = body_atoms rule.body ++ body_weights rule.body in
    fields_then rule.heads (rule.bound ∷ (counts rule.body ++ rest)) heads
    (writes_then c.in_ok-print_number.ensures (fields_then (counts rule.body) rest numbers
    (fields_cut (body_atoms rule.body) (body_weights rule.body)
    c.from_residual-in_err-print_literals.ensures.0 failed)))

pub returns : goal.returns
returns g c =
    let rule = c.args.rule.now in
    let heads = rw c.as_slice.ensures at c.in_ok-print_numbers.ensures in
    let numbers = rw c.as_slice-2.ensures at c.in_ok-print_counts.ensures in
    let atoms = rw c.as_slice-3.ensures at c.in_ok-print_literals.ensures in
    let rest = body_atoms rule.body ++ body_weights rule.body in
    fields_then rule.heads (rule.bound ∷ (counts rule.body ++ rest)) heads
    (writes_then c.in_ok-print_number.ensures (fields_then (counts rule.body) rest numbers
    (fields_then (body_atoms rule.body) (body_weights rule.body) atoms
    (rw c.as_slice-4.ensures at c.print_weights.ensures))))
