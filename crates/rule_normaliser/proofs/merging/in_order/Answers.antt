use Rattle.std.proofs.Common.{rules}
use Rattle.std.proofs.lemmas.List.Sorted.{IsNonDecreasingBy-from_sort_by_key}
use Rattle.ground_program.specs.declared.program.Weighted.{Weighted}
use Rattle.normal_program.specs.Body.{rank}
use Rattle.rule_normaliser.proofs.merging.in_order.Goals as goal

pub returns-clause-order : goal.returns-clause-order
returns-clause-order c =
    IsNonDecreasingBy-from_sort_by_key (λ (item : Weighted). rank item.lit) _
    c.sort_unstable_by_key.ensures.sorted
    (λ a r q k. search rules)
