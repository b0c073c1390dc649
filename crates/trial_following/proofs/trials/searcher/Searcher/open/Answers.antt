use Rattle.std.proofs.Common.{get_or, subst}
use Rattle.std.specs.Prelude.{Contains}
use Rattle.std.proofs.lemmas.List.Elements.{Contains-get_or}
use Rattle.clause_store.specs.Clause.{Meets}
use Rattle.trial_following.proofs.trials.searcher.Searcher.open.Goals as goal

pub open-requires-clause-holds : goal.open-requires-clause-holds
open-requires-clause-holds c values meets = subst (Meets values) c.of-theory.ensures meets

pub open-requires-clause-needs : goal.open-requires-clause-needs
open-requires-clause-needs c k d within =
    subst (λ clauses. Contains clauses (get_or c.of-theory.result k d)) c.of-theory.ensures
    (Contains-get_or c.of-theory.result k d within)
