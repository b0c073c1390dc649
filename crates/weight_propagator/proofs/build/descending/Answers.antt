use Rattle.std.proofs.Common.{rules, ◌≡◌, ◌∙◌, sym, ap, subst}
use Rattle.std.specs.Ordering.{nat_cmp, is_lt}
use Rattle.std.proofs.lemmas.Fn.{always_returns_same}
use Rattle.weight_propagator.specs.Rows.{IsDescending}
use Rattle.weight_propagator.proofs.OrderLemmas.{outweighs, outweighs_orders, descending_from_sort}
use Rattle.weight_propagator.proofs.build.descending.Goals as goal

pub returns-clause-order : goal.returns-clause-order
returns-clause-order c =
    subst IsDescending (sym (c.in_ok-terms.ensures ∙ c.deref.ensures.value))
    (descending_from_sort c.sort_by.new.self.items
    (c.in_ok-sort_by.ensures.sorted outweighs outweighs_orders
    (always_returns_same _ (λ a r. is_lt r ≡ outweighs a.0.now a.1.0.now) _ (λ a r q k.
    let same : r ≡ nat_cmp a.1.0.now.weight a.0.now.weight = search rules in
    (ap is_lt same, search rules)))))
