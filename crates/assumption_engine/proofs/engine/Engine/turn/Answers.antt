use Rattle.std.proofs.Common.{◌+◌, [], ◌∷◌, ◌++◌, None, ap, refl, subst, sym}
use Rattle.std.proofs.lemmas.List.Elements.{All-contains}
use Rattle.clause_store.specs.declared.step.Step.{Step}
use Rattle.clause_store.specs.Clause.{IsOver}
use Rattle.search_heuristics.specs.Places.{AreTrueBefore}
use Rattle.clause_store.specs.Trail.{present_level}
use Rattle.assumption_engine.specs.Task.{MayDecide, MustRefuse}
use Rattle.assumption_engine.specs.declared.answer.Answer.TheVariants.{Core}
use Rattle.assumption_engine.specs.declared.answer.Turn.TheVariants.{Going, Ended}
use Rattle.assumption_engine.proofs.AnswerLemmas.{core_of, room_below}
use Rattle.assumption_engine.proofs.GoingLemmas.{counted_none}
use Rattle.assumption_engine.proofs.SameLemmas.{same_itself, same_then}
use Rattle.assumption_engine.proofs.StepLemmas.{kept_places}
use Rattle.assumption_engine.proofs.StepLemmas.{counted_on, goes_on_propagated, may_turn_on}
use Rattle.assumption_engine.proofs.StepLemmas.{order_propagated, turned_decided, turned_given}
use Rattle.assumption_engine.proofs.StepLemmas.{task_read, if_turned_on, turned_learned, turned_on}
use Rattle.assumption_engine.proofs.StepLemmas.{turned_still}
use Rattle.assumption_engine.proofs.engine.Engine.turn.Goals as goal

pub returns-in_err-conflict-clause-counted : goal.returns-in_err-conflict-clause-counted
returns-in_err-conflict-clause-counted g c =
    counted_none (g.T.Theory.meaning c.args.self.now.theory) c.args.assumed.now
    c.args.self.now.defined c.args.self.now.state.clauses c.args.budget.now c.args.budget.now refl

pub returns-in-Learn-clause-same : goal.returns-in-Learn-clause-same
returns-in-Learn-clause-same g c =
    same_then (g.T.Theory.meaning c.args.self.now.theory)
    (g.T.Theory.meaning c.next_task.new.self.theory)
    (g.T.Theory.meaning c.learn_from.new.self.theory)
    c.next_task.ensures.same c.learn_from.ensures.same

pub returns-in-Learn-clause-counted : goal.returns-in-Learn-clause-counted
returns-in-Learn-clause-counted g c =
    counted_on c.next_task.ensures.defined c.next_task.ensures.same
    c.in_ok-conflict.ensures.right (goes_on_propagated c.next_task.ensures.propagated)
    (c.learn_from.ensures.counted c.args.assumed.now
    (order_propagated c.next_task.ensures.propagated c.requires.may.order))

pub returns-in-Learn-clause-turn : goal.returns-in-Learn-clause-turn
returns-in-Learn-clause-turn g c =
    if_turned_on (g.T.Theory.meaning c.learn_from.new.self.theory)
    (g.T.Theory.followed c.learn_from.new.self.theory)
    c.learn_from.new.self.defined c.args.assumed.now c.args.stop c.learn_from.new.self.state
    c.args.budget.now c.learn_from.new.budget
    c.learn_from.result c.next_task.ensures.same c.next_task.ensures.defined
    c.next_task.ensures.propagated
    (turned_learned (g.T.Theory.meaning c.next_task.new.self.theory)
    (g.T.Theory.meaning c.learn_from.new.self.theory)
    (g.T.Theory.followed c.learn_from.new.self.theory) c.next_task.new.self.defined
    c.learn_from.new.self.defined c.args.assumed.now c.args.stop c.next_task.new.self.state
    c.learn_from.new.self.state c.args.budget.now c.learn_from.new.budget c.learn_from.result
    c.learn_from.ensures.right c.learn_from.ensures.on
    (order_propagated c.next_task.ensures.propagated c.requires.may.order)
    c.learn_from.ensures.turn)

pub returns-in-Take-clause-same : goal.returns-in-Take-clause-same
returns-in-Take-clause-same g c =
    same_then (g.T.Theory.meaning c.args.self.now.theory)
    (g.T.Theory.meaning c.next_task.new.self.theory)
    (g.T.Theory.meaning c.take_given.new.self.theory)
    c.next_task.ensures.same c.take_given.ensures.same

pub returns-in-Take-clause-counted : goal.returns-in-Take-clause-counted
returns-in-Take-clause-counted g c =
    counted_none (g.T.Theory.meaning c.args.self.now.theory) c.args.assumed.now
    c.args.self.now.defined c.args.self.now.state.clauses c.args.budget.now c.args.budget.now refl

pub returns-in-Take-clause-turn : goal.returns-in-Take-clause-turn
returns-in-Take-clause-turn g c =
    if_turned_on (g.T.Theory.meaning c.take_given.new.self.theory)
    (g.T.Theory.followed c.take_given.new.self.theory)
    c.take_given.new.self.defined c.args.assumed.now c.args.stop c.take_given.new.self.state
    c.args.budget.now c.args.budget.now
    c.take_given.result c.next_task.ensures.same c.next_task.ensures.defined
    c.next_task.ensures.propagated
    (turned_given (g.T.Theory.meaning c.take_given.new.self.theory)
    (g.T.Theory.followed c.take_given.new.self.theory) c.next_task.new.self.defined
    c.take_given.new.self.defined c.args.assumed.now c.next_task.new.self.state
    c.take_given.new.self.state c.take_given.result
    (same_itself (g.T.Theory.meaning c.next_task.new.self.theory)) c.requires.may.room
    c.take_given.ensures.right c.take_given.ensures.on c.take_given.ensures.turn)

pub core-requires-clause-over : goal.core-requires-clause-over
core-requires-clause-over g c =
    let task : MustRefuse c.args.assumed.now c.next_task.new.self.state.trail.steps
    c.in-Refuse.lit = task_read _ _ _ _ _ _ c.in-Refuse.is c.in_ok-conflict.ensures.task in
    let may =
    may_turn_on c.next_task.ensures.propagated c.in_ok-conflict.ensures.right c.requires.may in
    All-contains (IsOver c.next_task.new.self.state.trail.vars) c.args.assumed.now c.in-Refuse.lit
    may.over task.among

pub returns-in_err-core-in-Refuse-clause-counted : goal.returns-in_err-core-in-Refuse-clause-counted
returns-in_err-core-in-Refuse-clause-counted g c =
    counted_none (g.T.Theory.meaning c.args.self.now.theory) c.args.assumed.now
    c.args.self.now.defined c.args.self.now.state.clauses c.args.budget.now c.args.budget.now refl

pub returns-in_ok-core-in-Refuse-clause-counted : goal.returns-in_ok-core-in-Refuse-clause-counted
returns-in_ok-core-in-Refuse-clause-counted g c =
    counted_none (g.T.Theory.meaning c.args.self.now.theory) c.args.assumed.now
    c.args.self.now.defined c.args.self.now.state.clauses c.args.budget.now c.args.budget.now refl

pub returns-in_ok-core-in-Refuse-clause-turn : goal.returns-in_ok-core-in-Refuse-clause-turn
returns-in_ok-core-in-Refuse-clause-turn g c =
    let task : MustRefuse c.args.assumed.now c.next_task.new.self.state.trail.steps
    c.in-Refuse.lit = task_read _ _ _ _ _ _ c.in-Refuse.is c.in_ok-conflict.ensures.task in
    turned_on (g.T.Theory.meaning c.next_task.new.self.theory)
    (g.T.Theory.followed c.next_task.new.self.theory)
    c.next_task.new.self.defined c.args.assumed.now c.args.stop c.next_task.new.self.state
    c.args.budget.now c.args.budget.now (Ended (Core c.in_ok-core-in-Refuse.field-0))
    c.next_task.ensures.same c.next_task.ensures.defined c.next_task.ensures.propagated
    (turned_still (same_itself (g.T.Theory.meaning c.next_task.new.self.theory))
    c.in_ok-conflict.ensures.right
    c.in_ok-conflict.ensures.right.follows
    (record {
      says =
          core_of (g.T.Theory.meaning c.next_task.new.self.theory)
          (g.T.Theory.followed c.next_task.new.self.theory)
          c.next_task.new.self.state c.next_task.new.self.defined c.args.assumed.now
          c.in-Refuse.lit c.in_ok-core-in-Refuse.field-0 c.in_ok-conflict.ensures.right
          (order_propagated c.next_task.ensures.propagated c.requires.may.order).first
          task.among task.is_false
          c.in_ok-core-in-Refuse.ensures.core c.in_ok-core-in-Refuse.ensures.unmet;
      counted = room_below c.args.stop c.args.budget.now c.requires.may.room;
    }))

pub returns-in-Decide-clause-counted : goal.returns-in-Decide-clause-counted
returns-in-Decide-clause-counted g c =
    counted_none (g.T.Theory.meaning c.args.self.now.theory) c.args.assumed.now
    c.args.self.now.defined c.args.self.now.state.clauses c.args.budget.now c.args.budget.now refl

pub returns-in-Decide-clause-turn : goal.returns-in-Decide-clause-turn
returns-in-Decide-clause-turn g c =
    let task : MayDecide c.next_task.new.self.state.clauses c.args.assumed.now
    c.next_task.new.self.state.trail c.in-Decide.lit =
    task_read _ _ _ _ _ _ c.in-Decide.is c.in_ok-conflict.ensures.task in
    turned_on (g.T.Theory.meaning c.next_task.new.self.theory)
    (g.T.Theory.followed c.next_task.new.self.theory)
    c.next_task.new.self.defined c.args.assumed.now c.args.stop c.decide.new.self
    c.args.budget.now c.args.budget.now Going
    c.next_task.ensures.same c.next_task.ensures.defined c.next_task.ensures.propagated
    (turned_decided _ c.in_ok-conflict.ensures.right c.decide.ensures
    task.turn c.requires.may.room.below)

pub check_total-requires-clause-may : goal.check_total-requires-clause-may
check_total-requires-clause-may g c =
    may_turn_on c.next_task.ensures.propagated c.in_ok-conflict.ensures.right c.requires.may

pub returns-in-Check-clause-same : goal.returns-in-Check-clause-same
returns-in-Check-clause-same g c =
    same_then (g.T.Theory.meaning c.args.self.now.theory)
    (g.T.Theory.meaning c.next_task.new.self.theory)
    (g.T.Theory.meaning c.check_total.new.self.theory)
    c.next_task.ensures.same c.check_total.ensures.same

pub returns-in-Check-clause-counted : goal.returns-in-Check-clause-counted
returns-in-Check-clause-counted g c =
    counted_none (g.T.Theory.meaning c.args.self.now.theory) c.args.assumed.now
    c.args.self.now.defined c.args.self.now.state.clauses c.args.budget.now c.args.budget.now refl

pub returns-in-Check-clause-turn : goal.returns-in-Check-clause-turn
returns-in-Check-clause-turn g c =
    if_turned_on (g.T.Theory.meaning c.check_total.new.self.theory)
    (g.T.Theory.followed c.check_total.new.self.theory)
    c.check_total.new.self.defined c.args.assumed.now c.args.stop c.check_total.new.self.state
    c.args.budget.now c.args.budget.now
    c.check_total.result c.next_task.ensures.same c.next_task.ensures.defined
    c.next_task.ensures.propagated
    c.check_total.ensures.turn

pub returns-in-Learn-clause-places : goal.returns-in-Learn-clause-places
returns-in-Learn-clause-places g c =
    kept_places c.learn_from.result c.learn_from.new.self.state.trail.steps c.args.assumed.now
    c.learn_from.ensures.keeps
    c.learn_from.ensures.places c.in_ok-conflict.ensures.places

pub returns-in-Take-clause-places : goal.returns-in-Take-clause-places
returns-in-Take-clause-places g c =
    kept_places c.take_given.result c.take_given.new.self.state.trail.steps c.args.assumed.now
    c.take_given.ensures.keeps
    c.take_given.ensures.places c.in_ok-conflict.ensures.places

pub returns-in-Check-clause-places : goal.returns-in-Check-clause-places
returns-in-Check-clause-places g c =
    kept_places c.check_total.result c.check_total.new.self.state.trail.steps c.args.assumed.now
    c.check_total.ensures.keeps
    c.check_total.ensures.places c.in_ok-conflict.ensures.places

pub returns-in-Decide-clause-places : goal.returns-in-Decide-clause-places
returns-in-Decide-clause-places g c =
    let steps = c.next_task.new.self.state.trail.steps in
    let decided : Step =
    record { lit = c.in-Decide.lit; reason = None; level = present_level steps + 1 } in
    subst (λ s. AreTrueBefore c.args.assumed.now s.trail.steps c.opens_level.new.self.places)
    (sym c.decide.ensures)
    (subst (λ t. AreTrueBefore c.args.assumed.now (t.steps ++ decided ∷ [])
    c.opens_level.new.self.places) c.trail.ensures.trail
    (c.opens_level.ensures c.args.assumed.now decided
    (ap (λ t. present_level t.steps + 1) (sym c.trail.ensures.trail))
    (subst (λ t. AreTrueBefore c.args.assumed.now t.steps c.next_task.new.self.steering.places)
    (sym c.trail.ensures.trail) c.in_ok-conflict.ensures.places)))
