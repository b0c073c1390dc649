use Rattle.std.proofs.Common.{◌∙◌, ap, nat_cmp}
use Rattle.std.specs.Ordering.{ord_max}
use Rattle.ground_program.proofs.ValidityLemmas.{next-named, grow}
use Rattle.ground_program.proofs.validity.greatest_in_names.Goals as goal

pub loop-named-preserved : goal.loop-named-preserved
loop-named-preserved c =
    grow _ _ _ _ _
    (c.max-most.ensures ∙ ap (λ named. ord_max nat_cmp c.loop-named.most named.atom)
    c.named-item.is) c.loop-named.invariant
    (next-named c.args.names.now c.loop-named.named-index c.named-item.result
    c.loop-named-test.true)
