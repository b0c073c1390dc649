use Rattle.std.proofs.Common.{take}
use Rattle.completion.specs.Chains.{NotesAll}
use Rattle.completion.proofs.support_clauses.note_all.Given as goal

abbrev pub invariant-loop-head : goal.invariant-loop-head
invariant-loop-head l =
    NotesAll (take l.head-index l.head-items) l.body l.initial.supports l.supports
