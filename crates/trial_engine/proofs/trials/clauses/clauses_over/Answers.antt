use Rattle.std.proofs.Common.{subst, sym, []}
use Rattle.std.specs.Prelude.{All, ◌∷◌}
use Rattle.std.proofs.lemmas.List.Elements.{All-append, All-cons, All-nil}
use Rattle.trial_engine.specs.Told.{IsClauseOver}
use Rattle.trial_engine.proofs.trials.clauses.clauses_over.Goals as goal

pub loop-lits-preserved : goal.loop-lits-preserved
loop-lits-preserved c =
    subst (All (IsClauseOver c.args.vars)) (sym c.in_ok-push.ensures.ok)
    (All-append (IsClauseOver c.args.vars) c.loop-lits.clauses (c.in_ok-clause.clause ∷ [])
    c.loop-lits.invariant
    (All-cons (IsClauseOver c.args.vars) c.in_ok-clause.clause [] c.in_ok-clause.ensures
    (All-nil (IsClauseOver c.args.vars))))
