use Rattle.std.proofs.Common.{◌∙◌, ap, subst}
use Rattle.worker_strategies.specs.Working.{HasBegun}
use Rattle.worker_strategies.proofs.DeskLemmas.{has_begun}
use Rattle.worker_strategies.proofs.worker.Worker.vouch.Goals as goal

pub returns-clause-begun : goal.returns-clause-begun
returns-clause-begun c alive =
    subst HasBegun c.self.view_is
    (has_begun c.self.inside.rounds c.self.inside.dead
    (c.self.invariant.0.ready (ap (λ it. it.dead) c.self.view_is ∙ alive)))
