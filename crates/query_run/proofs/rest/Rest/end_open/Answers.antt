use Rattle.std.proofs.Common.{List, ap, map, subst, sym, ◌∙◌}
use Rattle.std.specs.Prelude.{All}
use Rattle.ground_program.specs.Bounds.{IsCandidate}
use Rattle.ground_program.specs.declared.program.Named.{Named}
use Rattle.normal_program.specs.declared.normal.Normal.{Normal}
use Rattle.report.specs.declared.lines.Line.TheVariants.{Unsettled}
use Rattle.master_record.specs.Told.{sizes_of}
use Rattle.master_record.specs.Verdicts.{AreSpent}
use Rattle.query_run.specs.Way.{Left}
use Rattle.query_run.proofs.EndLemmas.{spent_end}
use Rattle.query_run.proofs.PartialLemmas.{listed_candidates}
use Rattle.query_run.proofs.rest.Rest.end_open.Goals as goal

pub write_tests-requires : goal.write_tests-requires
write_tests-requires g c =
    subst (λ (names : List Named). All (IsCandidate names) c.args.cands.now)
    (sym (ap (λ (left : Left). left.books.normal.names) c.self.view_is)
    ∙ ap (λ (n : Normal). n.names) c.self.invariant.same_normal)
    (subst (All (IsCandidate c.args.self.books.normal.names)) (sym c.requires)
    (listed_candidates c.args.self.books))

pub returns : goal.returns
returns g c =
    spent_end c.args.self (λ budget. map (λ cand. Unsettled cand budget) c.args.cands.now)
    c.into_spent-spent.result c.self.inside.normal.now c.self.inside.budget c.self.inside.sized
    c.sizes-sizes.result.0 c.sizes-sizes.result.1
    (sym (ap (λ (left : Left). left.books.normal) c.self.view_is) ∙ c.self.invariant.same_normal)
    (sym (ap (λ (left : Left). left.books.budget) c.self.view_is) ∙ c.self.invariant.same_budget)
    (sym (ap (λ (left : Left). left.sized) c.self.view_is))
    (sym (ap (λ (left : Left). (sizes_of left.books.pair).lower) c.self.view_is) ∙ sym c.sizes-sizes.ensures.lower)
    (sym (ap (λ (left : Left). (sizes_of left.books.pair).upper) c.self.view_is) ∙ sym c.sizes-sizes.ensures.upper)
    (subst (λ (left : Left). AreSpent left.books c.into_spent-spent.result) c.self.view_is
    c.into_spent-spent.ensures)
    c.write_tests.ensures
