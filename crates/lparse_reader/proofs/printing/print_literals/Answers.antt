use Rattle.std.proofs.Common.{get_or, refl}
use Rattle.byte_edges.proofs.CallerLemmas.{writes_same, wrote_more, wrote_fault, wrote_all}
use Rattle.lparse_reader.proofs.lemmas.Writing.TextWrites.{literal_field, fields_of_literals}
use Rattle.lparse_reader.proofs.lemmas.Writing.TextWrites.{no_part}
use Rattle.lparse_reader.proofs.printing.print_literals.Goals as goal

pub returns-in_err-print_number : goal.returns-in_err-print_number
returns-in_err-print_number g c =
    let literals = c.args.body.now in
    let at = c.loop-part.part-index in
    writes_same (fields_of_literals literals)
    (wrote_fault literal_field literals no_part at (get_or literals at no_part)
    c.from_residual.ensures.0
    c.loop-part-test.true refl c.loop-part.invariant c.in_err-print_number.ensures)

pub loop-part-preserved : goal.loop-part-preserved
loop-part-preserved g c =
    let literals = c.args.body.now in
    let at = c.loop-part.part-index in
    wrote_more literal_field literals no_part at (get_or literals at no_part) c.loop-part-test.true
    refl
    c.loop-part.invariant c.in_ok-print_number.ensures

pub returns : goal.returns
returns g c =
    writes_same (fields_of_literals c.args.body.now)
    (wrote_all literal_field c.args.body.now c.loop-part.part-index c.loop-part-test.false
    c.loop-part.invariant)
