use Rattle.std.proofs.Common.{◌≡◌, ◌+◌, length, take}
use Rattle.master_record.specs.Settling.{AreAnswers}
use Rattle.master_record.proofs.answers.answer_lines.Given as goal

abbrev pub invariant-loop-set : goal.invariant-loop-set
invariant-loop-set l = record {
  answers :
      AreAnswers l.names l.mode l.candidates.pair l.count (take l.set-index l.sets)
      l.lines.items;
  number : l.given ≡ l.count + length l.lines.items;
}
