use Rattle.std.proofs.Common.{◌∙◌, ap, subst, sym}
use Rattle.std.specs.Prelude.{All}
use Rattle.clause_store.specs.Clause.{IsOver}
use Rattle.propagator.specs.Watched.{IsReady}
use Rattle.propagator.proofs.WatchedLemmas.{ready_with_clause}
use Rattle.search_state.proofs.state.SearchState.add.Goals as goal

pub invariant_of-self-2 : goal.invariant_of-self-2
invariant_of-self-2 c =
    let before : IsReady c.self.inside.store c.self.inside.trail c.self.inside.watches =
    c.self.invariant.ready (ap (λ it. it.dead) c.self.view_is ∙ c.requires.alive) in
    let after : IsReady c.add.new.self c.self.inside.trail c.attach.new.self =
    ready_with_clause c.self.inside.store c.add.new.self c.args.lits.now c.self.inside.trail
    c.self.inside.watches c.attach.new.self c.in_ok-at.at before
    (subst (λ vars. All (IsOver vars) c.args.lits.now)
    (sym (ap (λ it. it.trail.vars) c.self.view_is)) c.requires.over) c.in_ok-at.ensures.at
    c.in_ok-at.ensures.ok c.in_ok-attach.ensures.ok in
    record {
      is_trail = c.self.invariant.is_trail;
      of_store = after.of_store;
      over = after.over;
      ready = λ alive. after;
    }
