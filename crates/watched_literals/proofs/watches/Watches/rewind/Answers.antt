use Rattle.std.proofs.Common.{◌≤◌, List, ap, length, map, sym, subst}
use Rattle.clause_store.specs.declared.step.Step.{Step}
use Rattle.clause_store.specs.Standing.{HasGoneBack, as_followed}
use Rattle.clause_store.specs.Trail.{Assigned}
use Rattle.propagator.specs.Watched.{Watched}
use Rattle.watched_literals.specs.Watching.{AreWatching}
use Rattle.watched_literals.proofs.WatchLemmas.{rewound}
use Rattle.watched_literals.proofs.watches.Watches.rewind.Goals as goal

pub invariant_of-self : goal.invariant_of-self
invariant_of-self c =
    subst
    (λ (trail : Assigned). AreWatching c.self.inside.vars c.self.inside.entries.items
    c.self.inside.tables (map as_followed trail.steps) c.lesser-self-inside.result)
    (sym c.of.ensures)
    (rewound c.args.trail.now (map as_followed c.self.inside.known.value.steps)
    (subst (HasGoneBack c.args.trail.now) (sym (ap (λ (it : Watched). it.followed) c.self.view_is))
    c.requires.gone_back)
    c.self.inside.vars c.self.inside.entries.items c.self.inside.tables c.self.inside.next
    c.lesser-self-inside.result c.self.invariant c.lesser-self-inside.ensures.first
    (subst (λ (steps : List Step). c.lesser-self-inside.result ≤ length steps) c.steps.ensures.steps
    c.lesser-self-inside.ensures.second))
