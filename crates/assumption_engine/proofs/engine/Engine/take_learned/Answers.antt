use Rattle.std.proofs.Common.{List, [], ◌∷◌, ◌++◌, ap, inr, refl, subst, sym, ◌∙◌}
use Rattle.clause_store.specs.declared.literal.Lit.{Lit}
use Rattle.clause_store.specs.Trail.{value_of}
use Rattle.clause_store.proofs.EntailmentLemmas.{refuted_follows}
use Rattle.assumption_engine.proofs.DownLemmas.{new_work}
use Rattle.assumption_engine.proofs.GoingLemmas.{counted_none, goes_on_counted, goes_on_still}
use Rattle.assumption_engine.proofs.GoingLemmas.{goes_on_then}
use Rattle.assumption_engine.proofs.GoingLemmas.{right_added, with_clause}
use Rattle.assumption_engine.proofs.StepLemmas.{counted_learned, goes_on_down}
use Rattle.assumption_engine.proofs.SameLemmas.{same_itself}
use Rattle.search_heuristics.specs.Places.{AreTrueBefore}
use Rattle.assumption_engine.proofs.engine.Engine.take_learned.Goals as goal

pub returns-in_err-add-in-Unset-clause-counted : goal.returns-in_err-add-in-Unset-clause-counted
returns-in_err-add-in-Unset-clause-counted g c assumed opposites =
    counted_learned assumed c.requires.right c.trail.ensures.is_trail c.requires.fixpoint
    c.requires.learned opposites (sym
    (ap (λ t. value_of t.steps c.args.self.now.learned.asserting) c.trail.ensures.trail)
    ∙ sym c.value.ensures ∙ c.in-Unset.is) c.as_slice.ensures c.in_ok-count-in-Unset.ensures.ok

pub restart_if_due-requires : goal.restart_if_due-requires
restart_if_due-requires g c =
    record {
      right =
          right_added (g.T.Theory.meaning c.args.self.now.theory)
          (g.T.Theory.followed c.args.self.now.theory) c.args.self.now.state c.add.new.self
          c.args.self.now.defined c.args.self.now.learned.clause c.requires.right
          (c.in_ok-add-in-Unset.ensures.ok
          ∙ ap (with_clause c.args.self.now.state) c.as_slice-in-Unset.ensures)
          (λ values model. refuted_follows c.args.self.now.state.clauses
          c.args.self.now.learned.clause c.requires.learned.refuted values
          (c.requires.right.holds values model));
    }

pub returns-in_ok-add-in-Unset-clause-on : goal.returns-in_ok-add-in-Unset-clause-on
returns-in_ok-add-in-Unset-clause-on g c assumed opposites =
    goes_on_then (g.T.Theory.meaning c.args.self.now.theory)
    (g.T.Theory.meaning c.args.self.now.theory) assumed c.args.self.now.state c.add.new.self
    c.restart_if_due.new.self.state c.args.budget.now c.count.new.self c.count.new.self
    (same_itself (g.T.Theory.meaning c.args.self.now.theory))
    (goes_on_counted (g.T.Theory.meaning c.args.self.now.theory) assumed c.args.self.now.state
    c.add.new.self c.args.budget.now c.count.new.self c.args.self.now.learned.clause
    (new_work c.args.self.now.state.clauses c.args.self.now.state.trail
    c.args.self.now.learned.clause c.args.self.now.learned.asserting c.trail.ensures.is_trail
    c.requires.fixpoint c.requires.learned (sym
    (ap (λ t. value_of t.steps c.args.self.now.learned.asserting) c.trail.ensures.trail)
    ∙ sym c.value.ensures ∙ c.in-Unset.is)) c.requires.learned.stands opposites
    (c.in_ok-add-in-Unset.ensures.ok
    ∙ ap (with_clause c.args.self.now.state) c.as_slice-in-Unset.ensures)
    (c.in_ok-count-in-Unset.ensures.ok
    ∙ ap (λ (lits : List Lit). record c.args.budget.now {
      units = c.args.budget.now.units ++ lits ∷ [];
    }) c.as_slice.ensures))
    (goes_on_down (g.T.Theory.meaning c.args.self.now.theory) assumed c.add.new.self
    c.restart_if_due.new.self.state c.count.new.self c.count.new.self refl
    c.restart_if_due.ensures.down)

pub returns-in_ok-add-in-Unset-clause-keeps : goal.returns-in_ok-add-in-Unset-clause-keeps
returns-in_ok-add-in-Unset-clause-keeps g c assumed places are =
    c.restart_if_due.ensures.down.keeps assumed places
    (subst (λ t. AreTrueBefore assumed t.steps places) (sym c.in_ok-add-in-Unset.ensures.trail)
    are)

pub returns-in_ok-add-in-Unset-clause-counted : goal.returns-in_ok-add-in-Unset-clause-counted
returns-in_ok-add-in-Unset-clause-counted g c assumed opposites =
    counted_learned assumed c.requires.right c.trail.ensures.is_trail c.requires.fixpoint
    c.requires.learned opposites (sym
    (ap (λ t. value_of t.steps c.args.self.now.learned.asserting) c.trail.ensures.trail)
    ∙ sym c.value.ensures ∙ c.in-Unset.is) c.as_slice.ensures c.in_ok-count-in-Unset.ensures.ok

pub returns-in_err-count-in-Unset-clause-counted :
    goal.returns-in_err-count-in-Unset-clause-counted
returns-in_err-count-in-Unset-clause-counted g c assumed opposites =
    counted_none (g.T.Theory.meaning c.args.self.now.theory) assumed c.args.self.now.defined
    c.args.self.now.state.clauses c.args.budget.now c.count.new.self
    c.in_err-count-in-Unset.ensures.err

pub returns-in_default : goal.returns-in_default
returns-in_default g c =
    record {
      right = c.requires.right;
      same = same_itself (g.T.Theory.meaning c.args.self.now.theory);
      defined = refl;
      on =
          λ assumed opposites. goes_on_still (g.T.Theory.meaning c.args.self.now.theory) assumed
          c.args.self.now.state c.args.self.now.state c.args.budget.now c.args.budget.now refl refl
          refl (λ order. order);
      counted =
          λ assumed opposites. counted_none (g.T.Theory.meaning c.args.self.now.theory) assumed
          c.args.self.now.defined c.args.self.now.state.clauses c.args.budget.now c.args.budget.now
          refl;
      turn =
          record {
            below = c.requires.room.below;
            taken =
                inr (record {
                  set =
                      λ unset. c.in_default.not-Unset
                      (c.value.ensures
                      ∙ ap (λ t. value_of t.steps c.args.self.now.learned.asserting)
                      c.trail.ensures.trail
                      ∙ unset);
                  same = refl;
                });
          };
      keeps = λ assumed places are. are;
      places = refl;
      dead = refl;
    }
