use Rattle.query_run.proofs.BeginLemmas.{begins_opened, ends_lost}
use Rattle.query_run.proofs.BudgetLemmas.{decided_end}
use Rattle.query_run.proofs.answering.answer_query.Goals as goal

pub answer-requires : goal.answer-requires
answer-requires g c =
    record {
      begins =
          begins_opened c.args.program.now c.args.normal.now c.args.settings.now c.requires.form
          c.requires.settings c.requires.alone c.in-Ok.rounds c.in-Ok.ensures.sound
          c.in-Ok.ensures.begun;
    }

pub returns-in-Ok-clause-decided : goal.returns-in-Ok-clause-decided
returns-in-Ok-clause-decided g c =
    decided_end c.args.program.now c.args.settings.now c.answer.result c.answer.ensures

pub returns-in-Err-clause-report : goal.returns-in-Err-clause-report
returns-in-Err-clause-report g c =
    ends_lost c.args.program.now c.args.normal.now c.args.settings.now c.requires.form
    c.requires.settings c.requires.alone c.end_plainly.ensures

pub returns-in-Err-clause-decided : goal.returns-in-Err-clause-decided
returns-in-Err-clause-decided g c =
    decided_end c.args.program.now c.args.settings.now c.end_plainly.result
    (ends_lost c.args.program.now c.args.normal.now c.args.settings.now c.requires.form
    c.requires.settings c.requires.alone c.end_plainly.ensures)
