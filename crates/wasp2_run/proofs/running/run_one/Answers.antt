use Rattle.std.proofs.Common.{[], subst, sym}
use Rattle.std.specs.Prelude.{IfSome}
use Rattle.query_run.specs.declared.answering.Ended.{Ended}
use Rattle.wasp2_run.specs.Run.{IsAllowed, IsAnsweredBy, IsDecidedAs, QueryRow, Ran}
use Rattle.wasp2_run.proofs.AcceptedLemmas.{accepted_by, decided_by}
use Rattle.wasp2_run.proofs.EndingLemmas.{ran_cut, ran_ok}
use Rattle.wasp2_run.proofs.running.run_one.Goals as goal

pub returns-in-Ok-clause-table : goal.returns-in-Ok-clause-table
returns-in-Ok-clause-table g c = ran_ok c.in-Ok.ended c.in-Ok.ensures.table

pub returns-in-Err-clause-table : goal.returns-in-Err-clause-table
returns-in-Err-clause-table g c =
    subst (λ (told : Ended). Ran g.K.Sink.written g.K.Sink.faults
    (IsAllowed (λ input. QueryRow c.args.settings.now input (g.S.Source.faults c.args.source.now)
    (g.S.Source.faults c.query.new.source)) (g.S.Source.left c.args.source.now))
    c.args.sink.now c.query.new.sink told.status told.spent)
    (sym c.without_tests.ensures) (ran_cut _ c.in-Err.ensures.table)

pub returns-in-Ok-clause-accepted : goal.returns-in-Ok-clause-accepted
returns-in-Ok-clause-accepted g c =
    accepted_by g.K.Sink.written g.K.Sink.faults c.args.settings.now
    (g.S.Source.left c.args.source.now) (g.S.Source.faults c.args.source.now)
    (g.S.Source.faults c.query.new.source) c.args.sink.now c.query.new.sink c.in-Ok.ended.status
    c.in-Ok.ended.spent (ran_ok c.in-Ok.ended c.in-Ok.ensures.table)

pub returns-in-Err-clause-accepted : goal.returns-in-Err-clause-accepted
returns-in-Err-clause-accepted g c =
    subst (λ (told : Ended). IfSome (g.S.Source.left c.args.source.now)
    (IsAnsweredBy told.status (g.S.Source.faults c.args.source.now)
    (g.S.Source.faults c.query.new.source) (g.K.Sink.faults c.args.sink.now)
    (g.K.Sink.faults c.query.new.sink)))
    (sym c.without_tests.ensures)
    (accepted_by g.K.Sink.written g.K.Sink.faults c.args.settings.now
    (g.S.Source.left c.args.source.now) (g.S.Source.faults c.args.source.now)
    (g.S.Source.faults c.query.new.source) c.args.sink.now c.query.new.sink 6 []
    (ran_cut _ c.in-Err.ensures.table))

pub returns-in-Ok-clause-decided : goal.returns-in-Ok-clause-decided
returns-in-Ok-clause-decided g c =
    decided_by g.K.Sink.written g.K.Sink.faults c.args.settings.now
    (g.S.Source.left c.args.source.now) (g.S.Source.faults c.args.source.now)
    (g.S.Source.faults c.query.new.source) c.args.sink.now c.query.new.sink c.in-Ok.ended.status
    c.in-Ok.ended.spent (ran_ok c.in-Ok.ended c.in-Ok.ensures.table)

pub returns-in-Err-clause-decided : goal.returns-in-Err-clause-decided
returns-in-Err-clause-decided g c =
    subst (λ (told : Ended). IfSome (g.S.Source.left c.args.source.now)
    (IsDecidedAs c.args.settings.now.budget told.status (g.S.Source.faults c.args.source.now)
    (g.S.Source.faults c.query.new.source) (g.K.Sink.faults c.args.sink.now)
    (g.K.Sink.faults c.query.new.sink)))
    (sym c.without_tests.ensures)
    (decided_by g.K.Sink.written g.K.Sink.faults c.args.settings.now
    (g.S.Source.left c.args.source.now) (g.S.Source.faults c.args.source.now)
    (g.S.Source.faults c.query.new.source) c.args.sink.now c.query.new.sink 6 []
    (ran_cut _ c.in-Err.ensures.table))
