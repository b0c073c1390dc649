use Rattle.std.proofs.Common.{subst, sym, []}
use Rattle.std.specs.Prelude.{All, ◌∷◌}
use Rattle.std.proofs.lemmas.List.Elements.{All-append, All-cons, All-nil}
use Rattle.clause_store.specs.Clause.{AreOver, IsOver}
use Rattle.trial_engine.specs.Told.{IsClauseOver}
use Rattle.trial_engine.proofs.trials.scene.store_of.Goals as goal

pub add-requires : goal.add-requires
add-requires c =
    (subst (IsClauseOver c.args.vars) (sym c.as_slice.ensures)
    (subst (IsClauseOver c.args.vars) (sym c.clause-item.is)
    (c.requires c.loop-clause.clause-index c.clause-item.result c.loop-clause-test.true))).allowed

pub loop-clause-preserved : goal.loop-clause-preserved
loop-clause-preserved c =
    let one =
    subst (IsClauseOver c.args.vars) (sym c.as_slice.ensures)
    (subst (IsClauseOver c.args.vars) (sym c.clause-item.is)
    (c.requires c.loop-clause.clause-index c.clause-item.result c.loop-clause-test.true)) in
    subst (AreOver c.args.vars) (sym c.in_ok-add.ensures.ok)
    (All-append (All (IsOver c.args.vars)) c.loop-clause.store (c.as_slice.result.now ∷ [])
    c.loop-clause.invariant
    (All-cons (All (IsOver c.args.vars)) c.as_slice.result.now [] one.over
    (All-nil (All (IsOver c.args.vars)))))
