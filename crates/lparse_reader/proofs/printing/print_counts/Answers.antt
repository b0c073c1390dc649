use Rattle.std.proofs.Common.{[], ◌∷◌}
use Rattle.byte_edges.proofs.CallerLemmas.{writes_then, writes_longer, writes_fault}
use Rattle.lparse_reader.specs.Pieces.{negatives}
use Rattle.lparse_reader.specs.Text.{next_fields}
use Rattle.lparse_reader.proofs.lemmas.Writing.TextWrites.{last_field}
use Rattle.lparse_reader.proofs.printing.print_counts.Goals as goal

pub returns-in_err-print_number : goal.returns-in_err-print_number
returns-in_err-print_number g c =
    writes_fault c.from_residual.ensures.0
    (writes_longer (next_fields (negatives c.args.body.now ∷ [])) c.in_err-print_number.ensures)

pub returns : goal.returns
returns g c =
    writes_then c.in_ok-print_number.ensures
    (last_field (negatives c.args.body.now)
    (rw c.negatives_of.ensures at c.print_number-2.ensures))
