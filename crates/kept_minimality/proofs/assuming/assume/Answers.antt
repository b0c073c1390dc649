use Rattle.std.proofs.Common.{◌∙◌, ◌++◌, ◌∷◌, [], ap, arith}
use Rattle.kept_minimality.proofs.AssumedLemmas.{next_literal}
use Rattle.kept_minimality.proofs.assuming.assume.Goals as goal

pub loop-atom-init : goal.loop-atom-init
loop-atom-init c = (omega arith, c.clear.ensures)

pub loop-atom-preserved : goal.loop-atom-preserved
loop-atom-preserved c =
    let lit = c.literal_for.result in (
      omega arith,
      c.in_ok-push.ensures.ok ∙ ap (λ all. all ++ lit ∷ []) c.loop-atom.invariant.1
          ∙ next_literal c.args.set.now c.loop-atom.atom lit c.loop-atom.invariant.0
          c.literal_for.ensures,
    )
