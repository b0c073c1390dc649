use Rattle.std.proofs.Common.{subst, sym}
use Rattle.kept_minimality.specs.Kept.{IsKept}
use Rattle.kept_minimality.proofs.SearchLemmas.{opened_kept}
use Rattle.kept_minimality.proofs.smaller_sets.SmallerSets.over.Goals as goal

pub invariant_of-result : goal.invariant_of-result
invariant_of-result c =
    let engine = c.in_ok-engine.engine in
    subst (λ normal. IsKept normal engine) (sym c.of.ensures)
    (opened_kept c.args.normal.now c.args.pair engine c.requires.normal c.in_ok-engine.ensures)
