use Rattle.std.proofs.Common.{not, ap, sym, ◌∙◌}
use Rattle.std.proofs.lemmas.List.Filters.{FiltersInPlace-more_no, FiltersInPlace-more_set}
use Rattle.std.proofs.lemmas.Option.{get_or_from_slice_get, slice_get_within}
use Rattle.conflict_learning.proofs.assumption_core.drop_blanks.Goals as goal
use Rattle.conflict_learning.proofs.assumption_core.drop_blanks.Goals.{then-not-is_blank}
use Rattle.conflict_learning.proofs.assumption_core.drop_blanks.Goals.{else-not-is_blank}

pub loop-at-preserved : goal.loop-at-preserved
loop-at-preserved c =
    let here =
    slice_get_within c.loop-at.core c.loop-at.at c.get-lit.result.now c.get-lit.ensures in
    let read =
    sym (get_or_from_slice_get c.loop-at.core c.loop-at.at c.get-lit.result.now
    c.get-lit.result.now c.get-lit.ensures) in
    elim c.if-not-is_blank.branch [
      | then-not-is_blank w ↦
          rw (w.core-is, w.set.ensures, w.kept-is)
          (FiltersInPlace-more_set c.loop-at.invariant here
          (ap not (sym c.is_blank.ensures ∙ w.if-not-is_blank.true)) read)
      | else-not-is_blank w ↦
          rw (w.core-is, w.kept-is)
          (FiltersInPlace-more_no c.loop-at.invariant here
          (ap not (sym c.is_blank.ensures ∙ w.if-not-is_blank.false)) read)
    ]
