use Rattle.std.proofs.Common.{refl, sym, subst, true≢false, ◌∙◌}
use Rattle.std.proofs.lemmas.List.{take_all}
use Rattle.std.proofs.lemmas.List.Elements.{All-more, All-same}
use Rattle.ground_program.specs.Validity.{RuleAtoms}
use Rattle.ground_program.proofs.validity.rules_have_atoms.Goals as goal

pub returns-then-not-has_atoms : goal.returns-then-not-has_atoms
returns-then-not-has_atoms c = (
  λ never. absurd (true≢false (sym never)),
  λ all.
      let here =
      subst RuleAtoms (sym c.rule-item.is)
      (all c.loop-rule.rule-index c.rule-item.result c.loop-rule-test.true) in
      absurd (true≢false (sym (c.has_atoms.ensures.1 here) ∙ c.if-not-has_atoms.true)),
)

pub loop-rule-preserved : goal.loop-rule-preserved
loop-rule-preserved c =
    All-more RuleAtoms c.args.rules.now c.loop-rule.rule-index c.rule-item.result
    c.loop-rule-test.true c.loop-rule.invariant
    (subst RuleAtoms c.rule-item.is (c.has_atoms.ensures.0 c.if-not-has_atoms.false))

pub returns : goal.returns
returns c = (
  λ _. All-same RuleAtoms _ _ (sym (take_all _ c.args.rules.now c.loop-rule-test.false))
      c.loop-rule.invariant,
  λ _. refl,
)
