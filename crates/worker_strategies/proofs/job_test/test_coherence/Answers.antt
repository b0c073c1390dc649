use Rattle.std.proofs.Common.{◌+◌, None, length, subst, sym}
use Rattle.std.specs.Prelude.{All}
use Rattle.std.proofs.lemmas.List.Elements.{All-nil}
use Rattle.clause_store.specs.Clause.{IsOver}
use Rattle.normal_program.specs.Normal.{greatest_body_var}
use Rattle.coherence_test.specs.Asked.{IsTested}
use Rattle.worker_strategies.proofs.job_test.test_coherence.Goals as goal

pub ask-requires-clause-may : goal.ask-requires-clause-may
ask-requires-clause-may c =
    let over = IsOver (greatest_body_var c.args.tester.now.normal) in
    record {
      over = subst (All over) (sym c.open.ensures) (All-nil over);
      any_over = tt;
      once = tt;
      left = tt;
    }

pub returns-clause-outcome : goal.returns-clause-outcome
returns-clause-outcome c mode =
    let normal = c.args.tester.now.normal in
    c.in_ok-outcome.ensures normal mode c.requires.normal tt
    (subst
    (λ assume. IsTested normal (record { assume = assume; any = None }) c.in_ok-tested.tested)
    c.open.ensures c.in_ok-tested.ensures.answer) (length c.args.budget.now.units + c.args.slice)
    c.ask.new.budget c.in_ok-tested.ensures.at
