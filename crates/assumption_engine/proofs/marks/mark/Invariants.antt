use Rattle.std.proofs.Common.{take}
use Rattle.assumption_engine.specs.Marks.{MarksOnly}
use Rattle.assumption_engine.proofs.marks.mark.Given as goal

abbrev pub invariant-lits : goal.invariant-lits
invariant-lits l = MarksOnly (take l.lit-index l.clause) l.fn.marks.items l.marks.items
