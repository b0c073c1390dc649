use Rattle.std.proofs.Common.{subst}
use Rattle.query_run.specs.Ending.{HasFinished}
use Rattle.query_run.specs.Way.{Left}
use Rattle.query_run.proofs.FinishLemmas.{ends_early, ends_finished}
use Rattle.query_run.proofs.rounds.Rounds.answer.Goals as goal

pub returns-in_err-verdict : goal.returns-in_err-verdict
returns-in_err-verdict g c =
    ends_early g.K.Sink.written g.K.Sink.faults c.args.program.now c.args.settings.now
    c.args.sink.now c.args.self c.requires.begins c.to_verdict-reached.new.sink
    c.to_verdict-reached.new.self c.from_residual.result c.from_residual.ensures.0
    c.in_err-verdict.ensures

pub returns : goal.returns
returns g c =
    ends_finished g.K.Sink.written g.K.Sink.faults c.args.program.now c.args.settings.now
    c.args.sink.now c.args.self c.requires.begins c.to_verdict-reached.new.sink
    c.finish.new.sink c.to_verdict-reached.new.self c.in_ok-verdict.verdict c.finish.result
    c.in_ok-verdict.ensures
    (subst
    (λ (left : Left).
    HasFinished g.K.Sink.written g.K.Sink.faults c.to_verdict-reached.new.sink
    c.finish.new.sink left c.in_ok-verdict.verdict c.finish.result)
    c.rest-rest.ensures c.finish.ensures)
