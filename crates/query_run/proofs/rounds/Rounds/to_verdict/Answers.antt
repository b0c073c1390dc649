use Rattle.std.proofs.Common.{◌≡◌, ◌<◌, List, rules, subst, sym}
use Rattle.report.specs.declared.lines.Line.{Line}
use Rattle.master_record.specs.Verdicts.{IsVerdict}
use Rattle.query_run.specs.Progress.{to_do}
use Rattle.query_run.specs.Way.{HasGone, Way}
use Rattle.query_run.proofs.ReachedLemmas.{reached_fault, reached_lost, reached_verdict}
use Rattle.query_run.proofs.ReachedLemmas.{telling_more, telling_none}
use Rattle.query_run.proofs.rounds.Rounds.to_verdict.Goals as goal

pub loop-verdict-init : goal.loop-verdict-init
loop-verdict-init g c = (
  telling_none g.K.Sink.written g.K.Sink.faults c.args.sink.now c.args.self.now c.requires.on
      c.requires.stands,
  c.verdict-verdict.ensures,
)

pub go-requires-clause-running : goal.go-requires-clause-running
go-requires-clause-running g c =
    subst (IsVerdict c.loop-verdict.self.books) c.in-Running.is c.loop-verdict.invariant.1

pub go-requires-clause-on : goal.go-requires-clause-on
go-requires-clause-on g c = c.loop-verdict.invariant.0.on

pub returns-in_default-go : goal.returns-in_default-go
returns-in_default-go g c =
    reached_lost g.K.Sink.written g.K.Sink.faults c.args.sink.now c.loop-verdict.sink
    c.args.self.now c.loop-verdict.self c.loop-verdict.invariant.0 c.go.new.self
    c.in_default-go.ensures.same

pub returns-in_err-tell : goal.returns-in_err-tell
returns-in_err-tell g c =
    let same : c.in-Ok.told.items ≡ c.as_slice.result.now = search rules in
    reached_fault g.K.Sink.written g.K.Sink.faults c.args.sink.now c.loop-verdict.sink
    c.tell.new.sink c.args.self.now c.loop-verdict.self c.go.new.self c.as_slice.result.now
    c.loop-verdict.invariant.0
    (subst (λ (lines : List Line). HasGone c.loop-verdict.self lines c.go.new.self) same
    c.in-Ok.ensures.gone)
    c.from_residual.result
    c.from_residual.ensures.0 c.tell.new.self c.in_err-tell.ensures.books
    c.in_err-tell.ensures.written

pub loop-verdict-smaller : goal.loop-verdict-smaller
loop-verdict-smaller g c =
    subst (λ (way : Way).
    to_do way.books way.worker < to_do c.loop-verdict.self.books c.loop-verdict.self.worker)
    (sym c.in_ok-tell.ensures.ok) c.in-Ok.ensures.gone.less

pub loop-verdict-preserved : goal.loop-verdict-preserved
loop-verdict-preserved g c =
    let same : c.in-Ok.told.items ≡ c.as_slice.result.now = search rules in (
      telling_more g.K.Sink.written g.K.Sink.faults c.args.sink.now c.loop-verdict.sink
          c.tell.new.sink c.args.self.now c.loop-verdict.self c.go.new.self c.as_slice.result.now
          c.loop-verdict.invariant.0
          (subst (λ (lines : List Line). HasGone c.loop-verdict.self lines c.go.new.self) same
          c.in-Ok.ensures.gone)
          c.tell.new.self c.in_ok-tell.ensures.ok c.in_ok-tell.ensures.written,
      c.verdict-verdict-in-Running.ensures,
    )

pub returns : goal.returns
returns g c =
    reached_verdict g.K.Sink.written g.K.Sink.faults c.args.sink.now c.loop-verdict.sink
    c.args.self.now c.loop-verdict.self c.loop-verdict.invariant.0 c.loop-verdict.verdict
    c.loop-verdict.invariant.1
