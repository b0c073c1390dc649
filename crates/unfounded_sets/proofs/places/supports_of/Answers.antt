use Rattle.std.proofs.Common.{◌≡◌, ◌∙◌, ◌+◌, ◌∷◌, ◌++◌, [], take, take_all, subst}
use Rattle.std.specs.Prelude.{Contains}
use Rattle.item_list.proofs.ListLemmas.{take_more_read}
use Rattle.normal_program.specs.declared.normal.NormalRule.{NormalRule}
use Rattle.unfounded_sets.specs.Placed.{AreJust, IsHeadIn}
use Rattle.unfounded_sets.proofs.PlacedLemmas.{just_more, rule_step}
use Rattle.unfounded_sets.proofs.places.supports_of.Goals as goal

pub loop-rule-preserved : goal.loop-rule-preserved
loop-rule-preserved c =
    let items = c.as_slice-rule-items.result.now in
    let at = c.loop-rule.rule-index in
    let rule : NormalRule = c.rule-item.result in
    rw (take_more_read items at rule c.loop-rule-test.true c.rule-item.is)
    (just_more (λ place item. IsHeadIn (take at items) item place)
    (λ place item. (item ≡ rule.body) × Contains rule.heads place)
    (λ place item. IsHeadIn (take at items ++ rule ∷ []) item place)
    (c.args.normal.now.atoms + 1) c.loop-rule.lists.items c.enter_support.new.lists.items
    c.loop-rule.invariant c.in_ok-enter_support.ensures
    (λ place item. rule_step (take at items) rule item place))

pub returns : goal.returns
returns c =
    rw (c.in_ok-lists-2.ensures ∙ c.deref.ensures.value)
    (subst
    (λ rules. AreJust (λ place item. IsHeadIn rules item place) (c.args.normal.now.atoms + 1)
    c.loop-rule.lists.items)
    (take_all c.loop-rule.rule-index c.as_slice-rule-items.result.now c.loop-rule-test.false
    ∙ c.as_slice-rule-items.ensures) c.loop-rule.invariant)
