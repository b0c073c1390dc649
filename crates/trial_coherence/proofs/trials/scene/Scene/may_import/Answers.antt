use Rattle.std.proofs.Common.{◌≡◌, true, rules}
use Rattle.trial_coherence.proofs.ImportLemmas.{import_of}
use Rattle.trial_coherence.proofs.trials.scene.Scene.may_import.Goals as goal

pub returns : goal.returns
returns c told =
    let shown : c.is_clause_over.result ≡ true = search rules in
    import_of c.args.self.now.normal.now c.greatest_body_var.result c.open-none.result
    c.as_slice.result.now c.args.clause.now c.greatest_body_var.ensures c.as_slice.ensures
    c.open-none.ensures (c.is_clause_over.ensures.over shown)
    (c.is_clause_over.ensures.once shown) (c.in_ok-entailed.ensures.0 told)
