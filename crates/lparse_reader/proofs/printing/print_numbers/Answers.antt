use Rattle.std.proofs.Common.{get_or, refl}
use Rattle.byte_edges.proofs.CallerLemmas.{wrote_more, wrote_fault}
use Rattle.lparse_reader.specs.Text.{next_field}
use Rattle.lparse_reader.proofs.printing.print_numbers.Goals as goal

pub returns-in_err-print_number : goal.returns-in_err-print_number
returns-in_err-print_number g c =
    let numbers = c.args.numbers.now in
    let at = c.loop-number.number-index in
    wrote_fault next_field numbers 0 at (get_or numbers at 0) c.from_residual.ensures.0
    c.loop-number-test.true refl c.loop-number.invariant c.in_err-print_number.ensures

pub loop-number-preserved : goal.loop-number-preserved
loop-number-preserved g c =
    let numbers = c.args.numbers.now in
    let at = c.loop-number.number-index in
    wrote_more next_field numbers 0 at (get_or numbers at 0) c.loop-number-test.true refl
    c.loop-number.invariant c.in_ok-print_number.ensures
