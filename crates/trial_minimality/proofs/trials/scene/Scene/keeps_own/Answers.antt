use Rattle.trial_minimality.proofs.KeepingLemmas.{kept_in_normal}
use Rattle.trial_minimality.proofs.trials.scene.Scene.keeps_own.Goals as goal

pub returns : goal.returns
returns c told =
    kept_in_normal _ _ _ _ c.requires.form (c.keeps_all.ensures told)
