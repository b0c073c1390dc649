use Rattle.std.proofs.Common.{ap, subst}
use Rattle.std.specs.Prelude.{IfNone}
use Rattle.propagator.specs.Fixpoint.{IsFixpoint}
use Rattle.search_state.proofs.state.SearchState.propagate.Goals as goal

pub returns-clause-none : goal.returns-clause-none
returns-clause-none c =
    subst
    (λ clauses. IfNone c.propagate-found.result
    (IsFixpoint clauses c.propagate-found.new.trail.steps))
    (ap (λ it. it.clauses) c.self.view_is) c.propagate-found.ensures.none
