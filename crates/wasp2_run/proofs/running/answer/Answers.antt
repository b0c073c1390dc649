use Rattle.wasp2_run.specs.Run.{report}
use Rattle.wasp2_run.proofs.EndingLemmas.{ends_weaker}
use Rattle.wasp2_run.proofs.RowLemmas.{size_row}
use Rattle.wasp2_run.proofs.running.answer.Goals as goal

pub returns-in-Ok : goal.returns-in-Ok
returns-in-Ok g c =
    ends_weaker c.answer_query.ensures.report (λ status spent text given. report given)

pub returns-in-Err : goal.returns-in-Err
returns-in-Err g c =
    ends_weaker c.write_size_refusal.ensures
    (λ status spent text is. size_row c.args.program.now c.args.settings.now c.in-Err.error status
    spent text c.in-Err.ensures.refused is)
