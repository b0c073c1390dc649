use Rattle.std.proofs.Common.{◌<◌, length, subst, sym, ap, refl, arith, take, ◌++◌, [], ◌∷◌, ◌∙◌}
use Rattle.std.proofs.lemmas.List.{take_more}
use Rattle.normal_program.specs.declared.normal.BodyOf.{BodyOf}
use Rattle.normal_program.specs.Body.{IsMerged}
use Rattle.normal_program.specs.Normal.{IsBodyOf, AreNumbered}
use Rattle.rule_normaliser.proofs.NumberLemmas.{Numbers-few, AreNumbered-push}
use Rattle.rule_normaliser.proofs.numbering.number_rules.Goals as goal

pub loop-rule-preserved : goal.loop-rule-preserved
loop-rule-preserved c =
    let rules = c.args.rules.now in
    let at = c.loop-rule.rule-index in
    let rule = c.rule-item.result in
    let body : BodyOf = record { bound = rule.bound; parts = c.in_ok-parts.parts } in
    let old = c.loop-rule.bodies.keys in
    let new = c.number_of.new.bodies.keys in
    let within : at < length rules = omega arith in
    let of_rule : IsBodyOf rule body =
    record {
      bound = refl;
      parts =
          subst (λ items. IsMerged items c.in_ok-parts.parts) c.as_slice.ensures
          c.in_ok-parts.ensures;
    } in
    let numbers = c.in_ok-number.ensures in
    let pushed =
    AreNumbered-push old body new c.in_ok-number.number numbers c.loop-rule.made (take at rules)
    c.loop-rule.invariant.numbered
    record { kind = rule.kind; heads = c.in_ok-heads.heads; body = c.in_ok-number.number } rule
    refl c.in_ok-heads.ensures refl of_rule in
    record {
      numbered =
          subst (AreNumbered new c.push.new.self)
          (sym
          (take_more rules at rule within
          ∙ ap (λ one. take at rules ++ one ∷ []) (sym c.rule-item.is)))
          (subst (λ made. AreNumbered new made (take at rules ++ rule ∷ []))
          (sym (c.in_ok-push.ensures).ok) pushed);
      few = omega (arith, Numbers-few old body new c.in_ok-number.number numbers);
    }
