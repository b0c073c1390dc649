use Rattle.std.proofs.Common.{sym, ◌∙◌, true≢false}
use Rattle.plain_answer_sets.proofs.EqualityLemmas.{test_differs, test_agrees}
use Rattle.plain_answer_sets.proofs.subsets.is_other_keeper.Goals as goal

pub returns-then-ne : goal.returns-then-ne
returns-then-ne c =
    let other = test_differs _ _ _ _ c.as_slice.ensures c.as_slice-2.ensures c.if-ne.ensures in
    (λ told. (other, c.keeps_all.ensures.0 told), λ both. c.keeps_all.ensures.1 both.1)

pub returns-else-ne : goal.returns-else-ne
returns-else-ne c =
    let same = test_agrees _ _ _ _ c.as_slice.ensures c.as_slice-2.ensures c.if-ne.ensures in
    (λ told. absurd (true≢false (sym told ∙ c.if-ne.false)), λ both. absurd (both.0 same))
