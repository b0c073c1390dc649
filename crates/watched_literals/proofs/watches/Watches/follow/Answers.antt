use Rattle.std.proofs.Common.{◌∙◌, List, ap, map, subst, sym}
use Rattle.std.specs.Prelude.{All}
use Rattle.clause_store.specs.Standing.{as_followed}
use Rattle.propagator.specs.Fixpoint.{IsQuietOn}
use Rattle.propagator.specs.Watched.{Attached, IsReady, Watched}
use Rattle.propagator.proofs.PassLemmas.{if_none_then}
use Rattle.propagator.proofs.WatchedLemmas.{fixpoint_from_attached}
use Rattle.watched_literals.specs.Walking.{IsRunning}
use Rattle.watched_literals.proofs.ReadyLemmas.{run_ready}
use Rattle.watched_literals.proofs.watches.Watches.follow.Goals as goal

pub run-found-requires : goal.run-found-requires
run-found-requires c = record {
  running =
      subst
      (λ (entries : List Attached). IsRunning c.args.store.now entries c.args.trail.now
      c.self.inside.tables c.self.inside.next) (sym c.as_slice.ensures.value)
      (run_ready c.args.store.now c.args.trail.now
      (record {
        vars = c.self.inside.vars;
        clauses = c.self.inside.entries.items;
        followed = map as_followed c.self.inside.known.value.steps;
      })
      c.self.inside.tables c.self.inside.next
      (subst (IsReady c.args.store.now c.args.trail.now) (sym c.self.view_is) c.requires)
      c.vouch.ensures c.self.invariant);
}

pub returns-clause-none : goal.returns-clause-none
returns-clause-none c =
    if_none_then c.run-found.result c.run-found.ensures.none
    (λ quiet. fixpoint_from_attached c.run-found.new.trail.steps c.args.self.now.clauses
    c.args.store.now c.requires.attached
    (subst (All (λ it. IsQuietOn c.run-found.new.trail.steps it.lits))
    (c.as_slice.ensures.value ∙ ap (λ (it : Watched). it.clauses) c.self.view_is) quiet))
