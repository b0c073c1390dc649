use Rattle.std.proofs.Common.{inr, map, subst, sym, rules}
use Rattle.std.specs.Prelude.{string_bytes, IfSome}
use Rattle.query_run.specs.declared.answering.Ended.{Ended}
use Rattle.run_words.specs.declared.task.Task.TheVariants.{Query}
use Rattle.run_words.specs.Words.{Orders}
use Rattle.wasp2_run.specs.Run.{AreOther, IsAllowed, IsDecidedAs, Ran, Row}
use Rattle.wasp2_run.proofs.EndingLemmas.{ends_plainly, ran_cut, ran_ok}
use Rattle.wasp2_run.proofs.RowLemmas.{allowed_words, by_ordered, ran_query}
use Rattle.wasp2_run.proofs.top.run.Goals as goal

pub returns-in-Ok-clause-table : goal.returns-in-Ok-clause-table
returns-in-Ok-clause-table g c =
    ran_query g.K.Sink.written g.K.Sink.faults (map string_bytes c.args.words.now)
    c.settings_of-settings.result (g.S.Source.left c.args.source.now)
    (g.S.Source.faults c.args.source.now) (g.S.Source.faults c.run_one.new.source)
    c.args.sink.now c.run_one.new.sink c.run_one.result.status c.run_one.result.spent
    (subst (Orders (map string_bytes c.args.words.now)) c.settings_of-settings.ensures
    c.in-Ok.ensures.orders)
    c.run_one.ensures.table

pub returns-in-Ok-clause-accepted : goal.returns-in-Ok-clause-accepted
returns-in-Ok-clause-accepted g c = inr c.run_one.ensures.accepted

pub returns-in-Ok-clause-decided : goal.returns-in-Ok-clause-decided
returns-in-Ok-clause-decided g c =
    by_ordered (map string_bytes c.args.words.now)
    (λ settings. IfSome (g.S.Source.left c.args.source.now) (IsDecidedAs settings.budget
    c.run_one.result.status (g.S.Source.faults c.args.source.now)
    (g.S.Source.faults c.run_one.new.source) (g.K.Sink.faults c.args.sink.now)
    (g.K.Sink.faults c.run_one.new.sink)))
    c.one_task_is_ordered.ensures c.settings_of-settings.result
    (subst (Orders (map string_bytes c.args.words.now)) c.settings_of-settings.ensures
    c.in-Ok.ensures.orders)
    c.run_one.ensures.decided

pub returns-in-Ok-refuse-clause-table : goal.returns-in-Ok-refuse-clause-table
returns-in-Ok-refuse-clause-table g c =
    let none : AreOther (map string_bytes c.args.words.now) = search rules in
    ran_ok c.in-Ok-refuse.ended
    (ends_plainly 4
    (allowed_words (map string_bytes c.args.words.now) (g.S.Source.left c.args.source.now)
    (g.S.Source.faults c.args.source.now) (g.S.Source.faults c.args.source.now) none)
    c.in-Ok-refuse.ensures.written c.in-Ok-refuse.ensures.ended)

pub returns-in-Ok-refuse-clause-decided : goal.returns-in-Ok-refuse-clause-decided
returns-in-Ok-refuse-clause-decided g c =
    let none : AreOther (map string_bytes c.args.words.now) = search rules in
    λ settings orders. absurd (none (Query settings) orders)

pub returns-in-Err-refuse-clause-table : goal.returns-in-Err-refuse-clause-table
returns-in-Err-refuse-clause-table g c =
    let none : AreOther (map string_bytes c.args.words.now) = search rules in
    subst (λ (told : Ended). Ran g.K.Sink.written g.K.Sink.faults
    (IsAllowed (λ input. Row (map string_bytes c.args.words.now) input
    (g.S.Source.faults c.args.source.now) (g.S.Source.faults c.args.source.now))
    (g.S.Source.left c.args.source.now))
    c.args.sink.now c.refuse.new.sink told.status told.spent)
    (sym c.without_tests.ensures)
    (ran_cut _ (ends_plainly 4
    (allowed_words (map string_bytes c.args.words.now) (g.S.Source.left c.args.source.now)
    (g.S.Source.faults c.args.source.now) (g.S.Source.faults c.args.source.now) none)
    c.in-Err-refuse.ensures.written c.in-Err-refuse.ensures.ended))
