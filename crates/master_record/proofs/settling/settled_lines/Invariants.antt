use Rattle.std.proofs.Common.{take}
use Rattle.master_record.proofs.SettledLemmas.{AreSoFar}
use Rattle.master_record.proofs.settling.settled_lines.Given as goal

abbrev pub invariant-loop-cand : goal.invariant-loop-cand
invariant-loop-cand l =
    AreSoFar l.names l.mode l.candidates.pair l.answers l.proved (take l.cand-index l.looked) l.last
    l.lines.items
