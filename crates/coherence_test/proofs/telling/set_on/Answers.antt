use Rattle.std.proofs.Common.{◌∙◌, ◌++◌, ◌∷◌, [], arith, ap, false}
use Rattle.kept_minimality.proofs.TotalLemmas.{first_value, next_value}
use Rattle.coherence_test.proofs.telling.set_on.Goals as goal

pub loop-atom-init : goal.loop-atom-init
loop-atom-init c = (
  omega arith,
  c.in_ok-push.ensures.ok ∙ ap (λ all. all ++ false ∷ []) c.open-set.ensures
      ∙ first_value c.args.trail.now c.vouch.ensures,
)

pub loop-atom-preserved : goal.loop-atom-preserved
loop-atom-preserved c =
    let value = c.is_true-is_in.result in
    let low = c.loop-atom-test.true in (
      omega arith,
      c.in_ok-push-2.ensures.ok ∙ ap (λ all. all ++ value ∷ []) c.loop-atom.invariant.1
          ∙ next_value c.args.trail.now c.loop-atom.atom c.positive.result value
          (omega (arith, low, c.requires)) c.positive.ensures c.is_true-is_in.ensures,
    )
