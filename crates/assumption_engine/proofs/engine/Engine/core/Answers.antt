use Rattle.std.proofs.Common.{subst}
use Rattle.conflict_learning.specs.AssumptionCore.{CannotMeet}
use Rattle.assumption_engine.proofs.engine.Engine.core.Goals as goal

pub returns-clause-unmet : goal.returns-clause-unmet
returns-clause-unmet g c =
    subst (λ clauses. CannotMeet clauses c.final_core.new.core) c.store.ensures.store
    c.in_ok-final_core.ensures.unmet
