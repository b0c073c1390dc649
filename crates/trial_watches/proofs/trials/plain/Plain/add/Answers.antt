use Rattle.std.proofs.Common.{subst, sym}
use Rattle.std.specs.Prelude.{All}
use Rattle.clause_store.specs.Clause.{IsOver}
use Rattle.propagator.proofs.WatchedLemmas.{ready_with_clause}
use Rattle.trial_watches.proofs.trials.plain.Plain.add.Goals as goal

pub returns : goal.returns
returns c =
    ready_with_clause c.args.self.now.store c.add.new.self c.as_slice.result.now
    c.args.self.now.trail c.args.self.now.watches c.attach.new.self c.in_ok-at.at c.requires
    (subst (λ vars. All (IsOver vars) c.as_slice.result.now) c.vars.ensures.vars
    (subst (All (IsOver c.vars.result)) (sym c.as_slice.ensures) c.in_ok-clause.ensures.over))
    c.in_ok-at.ensures.at c.in_ok-at.ensures.ok c.in_ok-attach.ensures.ok
