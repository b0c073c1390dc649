use Rattle.std.proofs.Common.{◌∙◌, ◌++◌, ◌∷◌, [], ap, arith, false}
use Rattle.kept_minimality.proofs.PartLemmas.{next_part}
use Rattle.kept_minimality.proofs.part.part_on.Goals as goal

pub loop-at-init : goal.loop-at-init
loop-at-init c = c.in_ok-push.ensures.ok ∙ ap (λ all. all ++ false ∷ []) c.open-part.ensures

pub loop-at-preserved : goal.loop-at-preserved
loop-at-preserved c =
    let value = c.is_true.result in
    let low = c.loop-at-test.true in
    c.in_ok-push-2.ensures.ok ∙ ap (λ all. all ++ value ∷ []) c.loop-at.invariant
    ∙ ap (λ rest. false ∷ rest)
    (next_part c.args.trail.now c.args.atoms c.loop-at.at value
    (omega (arith, low, c.requires)) c.is_true.ensures)
