use Rattle.std.proofs.Common.{◌≡◌, ◌∙◌, sym, ap, length}
use Rattle.std.proofs.lemmas.Bool.{eqb-true, eq-eqb}
use Rattle.search_heuristics.proofs.TotalLemmas.{count_of_total, total_by_count}
use Rattle.search_heuristics.proofs.decision_order.is_total.Goals as goal

pub returns : goal.returns
returns c =
    let counted : length c.steps.result.now ≡ length c.args.trail.now.steps =
    ap length c.steps.ensures.steps in (
      λ same. total_by_count c.args.trail.now c.steps.ensures.trail
          (sym counted ∙ eqb-true (length c.steps.result.now) c.vars.result same
          ∙ c.vars.ensures.vars),
      λ total. eq-eqb (length c.steps.result.now) c.vars.result
          (counted ∙ count_of_total c.args.trail.now c.steps.ensures.trail total
          ∙ sym c.vars.ensures.vars),
    )
