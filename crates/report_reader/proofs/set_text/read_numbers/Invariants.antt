use Rattle.std.proofs.Common.{◌≡◌, length}
use Rattle.report_reader.specs.Reading.{numbers_at}
use Rattle.report_reader.proofs.LoopLemmas.{with_front}
use Rattle.report_reader.proofs.set_text.read_numbers.Given as goal

abbrev pub invariant-loop-rest : goal.invariant-loop-rest
invariant-loop-rest l =
    with_front l.numbers.items (numbers_at (length l.rest) l.rest)
    ≡ numbers_at (length l.bytes) l.bytes

abbrev pub decreases-loop-rest : goal.decreases-loop-rest
decreases-loop-rest l = length l.rest
