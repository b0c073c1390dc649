use Rattle.std.proofs.Common.{Some, ap, sym, ◌∙◌}
use Rattle.clause_store.specs.Trail.{Assigned, present_level, value_of}
use Rattle.watched_literals.proofs.KnownLemmas.{newly_yes}
use Rattle.watched_literals.proofs.node_visit.make_true.Goals as goal

pub returns-in-Unset-clause-yes : goal.returns-in-Unset-clause-yes
returns-in-Unset-clause-yes c =
    ap (λ (it : Assigned). value_of it.steps c.args.lit) c.assign.ensures.steps
    ∙ newly_yes c.args.trail.now.steps
    (record {
      lit = c.args.lit;
      reason = Some c.args.why;
      level = present_level c.args.trail.now.steps;
    })
    (sym c.value.ensures ∙ c.in-Unset.is)
