use Rattle.std.proofs.Common.{take}
use Rattle.completion.specs.Drafts.{Unmarks}
use Rattle.completion.proofs.draft.unmark_each.Given as goal

abbrev pub invariant-loop-lit : goal.invariant-loop-lit
invariant-loop-lit l = Unmarks l.initial.marks.items l.marks.items (take l.lit-index l.lits)
