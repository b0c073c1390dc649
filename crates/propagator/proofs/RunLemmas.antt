-- Runs of propagation make progress.
use Rattle.std.proofs.Common.{◌≡◌, ◌++◌, ap, ◌∙◌, arith}
use Rattle.std.proofs.lemmas.List.Elements.{All-weaker}
use Rattle.clause_store.specs.Trail.{present_level}
use Rattle.clause_store.proofs.lemmas.Progress.ProgressLemmas.{progress_rises}
use Rattle.clause_store.proofs.lemmas.Progress.ProgressLemmas.{progress_rises_after_back}
use Rattle.clause_store.proofs.lemmas.Progress.ProgressLemmas.{present_after_back}
use Rattle.propagator.specs.ProgressLaws.{ProgressByPropagation, ProgressByGoingBack}

pub progress_by_propagation : ProgressByPropagation
progress_by_propagation old new conflict run is gone =
    progress_rises old new run.added conflict is run.vars run.steps gone

pub progress_by_going_back : ProgressByGoingBack
progress_by_going_back old back new level conflict run is_old is_new lower vars steps gone =
    let present : present_level back.steps ≡ level =
    ap present_level steps ∙ present_after_back old level is_old (omega (arith, lower)) in
    progress_rises_after_back old new level run.added conflict is_old is_new (run.vars ∙ vars) lower
    (run.steps ∙ ap (λ s. s ++ run.added) steps)
    (All-weaker (λ s. s.level ≡ present_level back.steps) (λ s. s.level ≡ level)
    (λ s at. at ∙ present) run.added run.present)
    gone
