-- A run of propagation begins with watches that are ready.
use Rattle.std.proofs.Common.{ℕ, List, length, map, take, drop}
use Rattle.std.proofs.Common.{subst}
use Rattle.std.proofs.lemmas.List.{take-append-drop}
use Rattle.clause_store.specs.declared.literal.Lit.{Lit}
use Rattle.clause_store.specs.Trail.{Assigned, IsTrail}
use Rattle.clause_store.specs.Standing.{as_followed}
use Rattle.propagator.specs.Watched.{Watched, IsReady}
use Rattle.watched_literals.specs.declared.tables.Tables.{Tables}
use Rattle.watched_literals.specs.Watching.{AreWatching}
use Rattle.watched_literals.specs.Walking.{IsRunning}
use Rattle.watched_literals.proofs.WatchingLemmas.{watching_more}

-- what watches the followed assignments watches the trail
pub run_ready : (clauses : List (List Lit)) (trail : Assigned) (watches : Watched)
    (tables : Tables) (next : ℕ) → IsReady clauses trail watches → IsTrail trail
    → AreWatching watches.vars watches.clauses tables watches.followed next
    → IsRunning clauses watches.clauses trail tables next
run_ready clauses trail watches tables next ready is_trail watching = record {
  named = ready.attached.named;
  over = ready.over;
  of_store = ready.of_store;
  is_trail = is_trail;
  watching =
      subst (λ vars. AreWatching vars watches.clauses tables (map as_followed trail.steps) next)
      ready.same_vars
      (subst
      (λ steps. AreWatching watches.vars watches.clauses tables (map as_followed steps) next)
      (take-append-drop (length watches.followed) trail.steps)
      (watching_more watches.vars watches.clauses tables
      (take (length watches.followed) trail.steps) (drop (length watches.followed) trail.steps)
      next
      (subst (λ known. AreWatching watches.vars watches.clauses tables known next)
      ready.followed watching)));
}
