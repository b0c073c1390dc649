use Rattle.std.proofs.Common.{◌≡◌, ◌≢◌, Err, ap, subst, sym}
use Rattle.byte_edges.specs.Faults.{Rose}
use Rattle.wasp2_run.proofs.EndingLemmas.{ends_given, ends_weaker}
use Rattle.wasp2_run.proofs.RowLemmas.{allowed_answer, allowed_refusal, answers_apart}
use Rattle.wasp2_run.proofs.RowLemmas.{refusal_apart}
use Rattle.wasp2_run.proofs.running.query.Goals as goal

pub returns-in-Ok-clause-table : goal.returns-in-Ok-clause-table
returns-in-Ok-clause-table g c =
    ends_weaker c.answer.ensures
    (λ status spent text has. allowed_answer c.args.settings.now _ _ _ c.in-Ok.program status spent
    text c.in-Ok.ensures.outcome has)

pub returns-in-Ok-clause-read_fault : goal.returns-in-Ok-clause-read_fault
returns-in-Ok-clause-read_fault g c =
    ends_given
    (λ status. status ≡ 5
    → Rose (g.S.Source.faults c.args.source.now) (g.S.Source.faults c.read_program.new.source))
    c.answer.result c.answer.ensures
    (λ status spent text has. λ five. absurd ((answers_apart _ _ status spent text has).0 five))

pub returns-in-Ok-clause-known : goal.returns-in-Ok-clause-known
returns-in-Ok-clause-known g c =
    ends_given (λ status. (status ≢ 4) × (status ≢ 6)) c.answer.result c.answer.ensures
    (λ status spent text has. let apart = answers_apart _ _ status spent text has in
    (apart.1, apart.2))

pub returns-in-Err-clause-table : goal.returns-in-Err-clause-table
returns-in-Err-clause-table g c =
    ends_weaker c.write_refusal.ensures
    (λ status spent text is. allowed_refusal c.args.settings.now _ _ _ c.in-Err.error status spent
    text c.in-Err.ensures.outcome (λ fault. c.in-Err.ensures.read_fault (ap Err fault)) is)

pub returns-in-Err-clause-known : goal.returns-in-Err-clause-known
returns-in-Err-clause-known g c =
    ends_given (λ status. (status ≢ 4) × (status ≢ 6)) c.write_refusal.result
    c.write_refusal.ensures
    (λ status spent text is. subst (λ n. (n ≢ 4) × (n ≢ 6)) (sym is.0)
    (refusal_apart c.in-Err.error))
