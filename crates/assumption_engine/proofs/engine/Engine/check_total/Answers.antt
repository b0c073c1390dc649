use Rattle.std.proofs.Common.{sym, ap, subst, arith}
use Rattle.clause_store.specs.Clause.{Meets}
use Rattle.clause_store.specs.Standing.{AreFollowed}
use Rattle.clause_store.specs.Trail.{IsTotal, values_of}
use Rattle.assumption_engine.specs.Theory.{IsGiven, IsSpentCheck}
use Rattle.assumption_engine.proofs.AnswerLemmas.{is_model, is_spent_inside, room_below, some_met}
use Rattle.assumption_engine.proofs.SameLemmas.{given_same, right_asked, same_then}
use Rattle.assumption_engine.proofs.StepLemmas.{turned_given, turned_still}
use Rattle.assumption_engine.proofs.engine.Engine.check_total.Goals as goal

pub complete_check-requires : goal.complete_check-requires
complete_check-requires g c =
    let meaning = g.T.Theory.meaning c.args.self.now.theory in
    let vars = ap (λ t. t.vars) c.trail.ensures.trail in
    record {
      range = omega (arith, vars, c.requires.may.right.range);
      followed =
          subst (λ t. AreFollowed t.steps (g.T.Theory.followed c.args.self.now.theory))
          (sym c.trail.ensures.trail) c.requires.may.right.follows;
      total = subst IsTotal (sym c.trail.ensures.trail) c.requires.check.total;
      needs =
          subst (λ t. Meets (values_of t) meaning.needs) (sym c.trail.ensures.trail)
          (some_met meaning (g.T.Theory.followed c.args.self.now.theory) c.args.self.now.state
          c.args.self.now.defined meaning.needs c.requires.may.right c.vouch.ensures.over
          c.requires.check.total c.requires.check.fixpoint c.requires.may.right.needed);
      some =
          omega (
            arith,
            c.limit.ensures,
            c.requires.may.room.below,
            c.requires.may.room.within,
          );
    }

pub returns-in-Accept-clause-turn : goal.returns-in-Accept-clause-turn
returns-in-Accept-clause-turn g c =
    turned_still c.complete_check.ensures.same c.requires.may.right
    (subst (λ t. AreFollowed t.steps (g.T.Theory.followed c.complete_check.new.self))
    c.trail.ensures.trail c.complete_check.ensures.followed)
    (record {
      says =
          is_model (g.T.Theory.meaning c.args.self.now.theory)
          (g.T.Theory.followed c.args.self.now.theory) c.args.self.now.state
          c.args.self.now.defined c.args.assumed.now c.requires.may.right c.vouch.ensures.over
          c.requires.check.total c.requires.check.fixpoint c.requires.may.over
          c.requires.check.all_true
          (subst (λ t. (g.T.Theory.meaning c.args.self.now.theory).models (values_of t))
          c.trail.ensures.trail c.in-Accept.ensures.answer);
      counted = room_below c.args.stop c.args.budget.now c.requires.may.room;
    })

pub take_given-requires-clause-right : goal.take_given-requires-clause-right
take_given-requires-clause-right g c =
    right_asked c.requires.may.right c.complete_check.ensures.same c.trail.ensures.trail
    c.complete_check.ensures.followed

pub take_given-requires-clause-given : goal.take_given-requires-clause-given
take_given-requires-clause-given g c =
    given_same (g.T.Theory.meaning c.args.self.now.theory)
    (g.T.Theory.meaning c.complete_check.new.self) c.args.self.now.state.trail
    c.complete_check.new.out c.complete_check.ensures.same
    (subst (λ t. IsGiven (g.T.Theory.meaning c.args.self.now.theory) t c.complete_check.new.out)
    c.trail.ensures.trail c.in-Clause.ensures.answer)

pub returns-in-Clause-clause-same : goal.returns-in-Clause-clause-same
returns-in-Clause-clause-same g c =
    same_then (g.T.Theory.meaning c.args.self.now.theory)
    (g.T.Theory.meaning c.complete_check.new.self)
    (g.T.Theory.meaning c.take_given.new.self.theory) c.complete_check.ensures.same
    c.take_given.ensures.same

pub returns-in-Clause-clause-turn : goal.returns-in-Clause-clause-turn
returns-in-Clause-clause-turn g c =
    turned_given _ _ _ _ _ _ _ c.take_given.result c.complete_check.ensures.same
    c.requires.may.room c.take_given.ensures.right c.take_given.ensures.on
    c.take_given.ensures.turn

pub returns-in-Spent-clause-turn : goal.returns-in-Spent-clause-turn
returns-in-Spent-clause-turn g c =
    turned_still c.complete_check.ensures.same c.requires.may.right
    (subst (λ t. AreFollowed t.steps (g.T.Theory.followed c.complete_check.new.self))
    c.trail.ensures.trail c.complete_check.ensures.followed)
    (record {
      says =
          is_spent_inside (g.T.Theory.meaning c.args.self.now.theory)
          (g.T.Theory.followed c.args.self.now.theory) c.args.self.now.state
          c.args.self.now.defined c.args.assumed.now c.args.budget.now.limit c.in-Spent.set
          c.in-Spent.units c.requires.may.right c.vouch.ensures.over c.requires.check.total
          c.requires.check.fixpoint c.requires.may.over c.requires.check.all_true
          (subst (λ t. IsSpentCheck (g.T.Theory.meaning c.args.self.now.theory)
          c.args.budget.now.limit (values_of t) c.in-Spent.set c.in-Spent.units)
          c.trail.ensures.trail
          (subst (λ n. IsSpentCheck (g.T.Theory.meaning c.args.self.now.theory) n
          (values_of c.trail.result.now) c.in-Spent.set c.in-Spent.units)
          c.limit.ensures c.in-Spent.ensures.answer));
      counted = room_below c.args.stop c.args.budget.now c.requires.may.room;
    })
