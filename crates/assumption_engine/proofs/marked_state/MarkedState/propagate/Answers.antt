use Rattle.std.proofs.Common.{ap, sym, subst}
use Rattle.std.specs.Prelude.{IfNone}
use Rattle.propagator.specs.Fixpoint.{IsFixpoint}
use Rattle.assumption_engine.proofs.marked_state.MarkedState.propagate.Goals as goal

pub returns-clause-none : goal.returns-clause-none
returns-clause-none c =
    subst
    (λ clauses. IfNone c.propagate-conflict.result
    (IsFixpoint clauses c.propagate-conflict.new.self.trail.steps))
    (sym (ap (λ s. s.clauses) c.propagate-conflict.ensures.rest)) c.propagate-conflict.ensures.none
