use Rattle.std.proofs.Common.{◌∙◌, ◌++◌, ◌∷◌, [], None, ap, arith, subst, sym}
use Rattle.worker_jobs.specs.declared.job.Job.TheVariants.{Single}
use Rattle.worker_jobs.specs.declared.gain.RoundEnd.TheVariants.{Done}
use Rattle.worker_strategies.specs.Outcome.{IsAnswer}
use Rattle.worker_strategies.proofs.GainLemmas.{single_none, single_proved}
use Rattle.worker_strategies.proofs.telling.single_refuted.Goals as goal

pub returns-then-len-eq0 : goal.returns-then-len-eq0
returns-then-len-eq0 c normal mode is candidate core =
    let none = c.if-len-eq0.true in
    let size = c.len.ensures in
    subst (IsAnswer normal mode (Single c.args.cand)) (sym c.incoherent.ensures)
    (single_none normal mode c.args.cand is candidate c.args.core.now core
    (omega (arith, none, size)))

pub returns : goal.returns
returns c normal mode is candidate core =
    subst (IsAnswer normal mode (Single c.args.cand))
    (sym (c.proved.ensures
    ∙ ap (λ all. record { sets = []; proved = all; coherent = None; ended = Done })
    (c.in_ok-push.ensures.ok ∙ ap (λ all. all ++ c.args.cand ∷ []) c.open-cands.ensures)))
    (single_proved normal mode c.args.cand is candidate c.args.core.now core)
