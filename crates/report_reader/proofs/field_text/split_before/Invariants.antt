use Rattle.std.proofs.Common.{take}
use Rattle.report_reader.proofs.FieldLemmas.{Lacks}
use Rattle.report_reader.proofs.field_text.split_before.Given as goal

abbrev pub invariant-loop-at : goal.invariant-loop-at
invariant-loop-at l = Lacks l.end (take l.at l.bytes)
