use Rattle.std.proofs.Common.{◌∙◌, [], None, ap, subst, sym}
use Rattle.std.proofs.lemmas.Bool.{false≢true}
use Rattle.worker_jobs.specs.declared.job.Job.TheVariants.{Reduce}
use Rattle.worker_jobs.specs.declared.gain.RoundEnd.TheVariants.{Done}
use Rattle.worker_strategies.specs.Outcome.{IsAnswer}
use Rattle.worker_strategies.proofs.ReduceLemmas.{reduce_none, reduce_proved}
use Rattle.worker_strategies.proofs.telling.reduce_refuted.Goals as goal

pub returns-then-core : goal.returns-then-core
returns-then-core c normal mode is are core =
    subst (IsAnswer normal mode (Reduce c.args.cands.now))
    (sym (c.proved.ensures
    ∙ ap (λ all. record { sets = []; proved = all; coherent = None; ended = Done })
    c.in_ok-all.ensures))
    (reduce_proved normal mode c.args.cands.now is are c.args.core.now core)

pub returns : goal.returns
returns c normal mode is are core =
    subst (IsAnswer normal mode (Reduce c.args.cands.now)) (sym c.incoherent.ensures)
    (reduce_none normal mode c.args.cands.now is are c.args.core.now core
    (λ some. false≢true (sym c.if-core.false ∙ some)))
