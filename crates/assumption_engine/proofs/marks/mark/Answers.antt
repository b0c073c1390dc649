use Rattle.assumption_engine.proofs.MarkLemmas.{marks_next}
use Rattle.assumption_engine.proofs.marks.mark.Goals as goal

pub lits-preserved : goal.lits-preserved
lits-preserved c =
    marks_next c.args.clause.now c.lits.lit-index (record { 0 = 0 }) c.args.marks.now.items
    c.lits.marks.items c.mark_lit.new.marks.items c.lits-test.true c.lits.invariant
    c.mark_lit.ensures
