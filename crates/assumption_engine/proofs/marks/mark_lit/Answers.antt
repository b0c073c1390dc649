use Rattle.std.proofs.Common.{sym, subst, ◌∙◌}
use Rattle.assumption_engine.specs.Marks.{MarksOne}
use Rattle.assumption_engine.proofs.MarkLemmas.{marks_unnegated}
use Rattle.assumption_engine.proofs.marks.mark_lit.Goals as goal

pub returns : goal.returns
returns c =
    marks_unnegated c.args.lit c.args.marks.now.items c.mark_one.new.marks.items
    (sym c.is_negated.ensures ∙ c.if-is_negated.false)
    (subst (λ var. MarksOne var c.args.marks.now.items c.mark_one.new.marks.items) c.var.ensures
    c.mark_one.ensures)
