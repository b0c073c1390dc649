use Rattle.std.proofs.Common.{◌≡◌, ◌∙◌, ◌+◌, ◌++◌, ◌∷◌, [], None, ap, length, subst, sym}
use Rattle.std.specs.Prelude.{All}
use Rattle.std.proofs.lemmas.List.Elements.{All-cons, All-nil}
use Rattle.clause_store.specs.Clause.{IsOver}
use Rattle.normal_program.specs.Normal.{greatest_body_var}
use Rattle.coherence_test.specs.Asked.{IsTested}
use Rattle.worker_jobs.specs.Job.{test_literal}
use Rattle.worker_strategies.proofs.job_test.test_single.Goals as goal

pub ask-requires-clause-may : goal.ask-requires-clause-may
ask-requires-clause-may c =
    let over = IsOver (greatest_body_var c.args.tester.now.normal) in
    let lit = c.test_literal.result in
    let is : c.push.new.self ≡ lit ∷ [] =
    c.in_ok-push.ensures.ok ∙ ap (λ all. all ++ lit ∷ []) c.open-assume.ensures in
    record {
      over =
          subst (All over) (sym is)
          (All-cons over lit []
          (subst (λ normal. IsOver (greatest_body_var normal) lit) (sym c.requires.same)
          c.test_literal.ensures.over) (All-nil over));
      any_over = tt;
      once = tt;
      left = tt;
    }

pub returns-clause-outcome : goal.returns-clause-outcome
returns-clause-outcome c =
    let normal = c.args.normal.now in
    let mode = c.args.mode in
    let lit = c.test_literal.result in
    let is : c.push.new.self ≡ test_literal normal.names mode c.args.cand ∷ [] =
    c.in_ok-push.ensures.ok ∙ ap (λ all. all ++ lit ∷ []) c.open-assume.ensures
    ∙ ap (λ one. one ∷ []) c.test_literal.ensures.is in
    c.in_ok-outcome.ensures normal mode c.requires.normal c.requires.candidate
    (subst
    (λ assume. IsTested normal (record { assume = assume; any = None }) c.in_ok-tested.tested) is
    (subst
    (λ one. IsTested one (record { assume = c.push.new.self; any = None })
    c.in_ok-tested.tested) c.requires.same c.in_ok-tested.ensures.answer))
    (length c.args.budget.now.units + c.args.slice) c.ask.new.budget c.in_ok-tested.ensures.at
