use Rattle.std.proofs.Common.{subst}
use Rattle.std.specs.Prelude.{IfSome}
use Rattle.coherence_test.specs.Searching.{IsFalseAtZero}
use Rattle.coherence_test.proofs.RefutedLemmas.{refuted_if}
use Rattle.coherence_test.proofs.search.Search.refuted_at.Goals as goal

pub returns : goal.returns
returns c =
    let it = c.args.self.now in
    refuted_if it.normal.now it.engine it.disjunctions c.refuted_on.result c.requires
    c.vouch.ensures.is_trail c.vouch.ensures.of_store
    (subst (λ trail. IfSome c.refuted_on.result (IsFalseAtZero trail.steps)) c.trail.ensures
    c.refuted_on.ensures)
