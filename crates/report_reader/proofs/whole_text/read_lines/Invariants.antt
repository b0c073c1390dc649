use Rattle.std.proofs.Common.{length}
use Rattle.report_reader.proofs.LoopLemmas.{ReadSoFar}
use Rattle.report_reader.proofs.whole_text.read_lines.Given as goal

abbrev pub invariant-loop-rest : goal.invariant-loop-rest
invariant-loop-rest l = ReadSoFar l.atoms l.names l.text l.lines.items l.rest

abbrev pub decreases-loop-rest : goal.decreases-loop-rest
decreases-loop-rest l = length l.rest
