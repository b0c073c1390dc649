use Rattle.std.proofs.Common.{arith, decimal}
use Rattle.std.proofs.lemmas.Fmt.{decimal_nonempty}
use Rattle.number_text.proofs.NumberLemmas.{few_digits}
use Rattle.number_text.proofs.Buffer.{byte_and_digits}
use Rattle.number_text.proofs.writing.write_number_after.Goals as goal

pub write_digits-start-requires : goal.write_digits-start-requires
write_digits-start-requires g c = let few = few_digits c.args.value c.ranges.value.fits in
    (omega arith, omega arith)

pub overflow_sub-start : goal.overflow_sub-start
overflow_sub-start g c = let few = few_digits c.args.value c.ranges.value.fits in omega arith

pub returns : goal.returns
returns g c =
    let few = few_digits c.args.value c.ranges.value.fits in
    let done = c.write_digits-start in
    let text =
    byte_and_digits c.args.before done.result 21 done.new.buf (decimal c.args.value)
    (omega arith) (decimal_nonempty c.args.value c.ranges.value.fits) done.ensures.start
    (omega arith) done.ensures.before done.ensures.written in
    rw text at c.write_bytes.ensures
