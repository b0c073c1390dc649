use Rattle.std.proofs.Common.{◌≡◌, length, take, fold}
use Rattle.master_record.specs.Course.{course_after}
use Rattle.master_record.proofs.candidates.Candidates.settle.Given as goal

abbrev pub invariant-loop-line : goal.invariant-loop-line
invariant-loop-line l = record {
  same : length l.self.left ≡ length l.initial.self.left;
  done : l.self ≡ fold course_after l.initial.self (take l.line-index l.lines);
}
