use Rattle.std.proofs.Common.{◌≡◌, ◌+◌, ◌-◌}
use Rattle.report_reader.specs.Reading.{set_at, values_at}
use Rattle.report_reader.proofs.LoopLemmas.{with_front}
use Rattle.report_reader.proofs.set_text.set_of.Given as goal

abbrev pub invariant-loop-before : goal.invariant-loop-before
invariant-loop-before l =
    with_front l.set (values_at (l.atoms - l.before) (l.before + 1) l.left)
    ≡ set_at l.atoms l.numbers
