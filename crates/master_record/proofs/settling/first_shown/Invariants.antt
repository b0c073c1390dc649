use Rattle.std.proofs.Common.{take}
use Rattle.master_record.proofs.ShownLemmas.{IsHiddenIn}
use Rattle.master_record.proofs.settling.first_shown.Given as goal

abbrev pub invariant-loop-line : goal.invariant-loop-line
invariant-loop-line l = IsHiddenIn l.names l.mode (take l.line-index l.answers) l.cand
