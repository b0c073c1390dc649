use Rattle.std.proofs.Common.{sym, subst, get_or}
use Rattle.std.proofs.lemmas.List.{take_more}
use Rattle.conflict_learning.specs.Cells.{MarksAll, blank}
use Rattle.conflict_learning.proofs.CellLemmas.{marks_more}
use Rattle.conflict_learning.proofs.assumption_core.mark_all.Goals as goal

pub loop-lit-preserved : goal.loop-lit-preserved
loop-lit-preserved c =
    subst (λ lits. MarksAll c.args.trail.now.steps c.args.last lits c.args.core.now c.mark.new.core)
    (sym (take_more c.args.lits.now c.loop-lit.lit-index blank c.loop-lit-test.true))
    (marks_more c.args.trail.now c.args.last _ (get_or c.args.lits.now c.loop-lit.lit-index blank)
    c.args.core.now c.loop-lit.core c.mark.new.core
    (c.requires.markable c.loop-lit.lit-index blank c.loop-lit-test.true) c.loop-lit.invariant
    c.mark.ensures)
