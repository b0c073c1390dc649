use Rattle.std.proofs.Common.{◌≡◌, ◌∙◌, Some, arith, sym, ap, subst}
use Rattle.std.specs.Prelude.{slice_get}
use Rattle.conflict_learning.specs.Analysis.{greatest_level}
use Rattle.propagator.proofs.ExtendLemmas.{same_level}
use Rattle.assumption_engine.specs.Answer.{HasTaken, IsBelow, IsTurn}
use Rattle.assumption_engine.specs.Engine.{HasCounted}
use Rattle.assumption_engine.proofs.AnswerLemmas.{core_at_zero, room_below}
use Rattle.assumption_engine.proofs.DownLemmas.{down_further, learned_extended, opposed_further}
use Rattle.assumption_engine.proofs.GoingLemmas.{counted_none, counted_then, goes_on_then}
use Rattle.assumption_engine.proofs.GoingLemmas.{if_ok_then, on_ok_then}
use Rattle.assumption_engine.proofs.SameLemmas.{right_propagated, same_then}
use Rattle.assumption_engine.proofs.StepLemmas.{goes_on_down}
use Rattle.assumption_engine.proofs.TurnLemmas.{turn_taken}
use Rattle.assumption_engine.proofs.engine.Engine.learn_from.Goals as goal

pub returns-then-level-eq0-clause-on : goal.returns-then-level-eq0-clause-on
returns-then-level-eq0-clause-on g c assumed order =
    goes_on_down (g.T.Theory.meaning c.args.self.now.theory) assumed c.args.self.now.state
    c.conflicts.self.state c.args.budget.now c.conflicts.budget c.conflicts.invariant.budget
    c.conflicts.invariant.down

pub returns-then-level-eq0-clause-counted : goal.returns-then-level-eq0-clause-counted
returns-then-level-eq0-clause-counted g c assumed order =
    counted_none (g.T.Theory.meaning c.args.self.now.theory) assumed c.args.self.now.defined
    c.args.self.now.state.clauses c.args.budget.now c.conflicts.budget c.conflicts.invariant.budget

pub returns-then-level-eq0-clause-turn : goal.returns-then-level-eq0-clause-turn
returns-then-level-eq0-clause-turn g c assumed =
    record {
      says =
          core_at_zero (g.T.Theory.meaning c.args.self.now.theory)
          (g.T.Theory.meaning c.conflicts.self.theory) (g.T.Theory.followed c.conflicts.self.theory)
          c.conflicts.self.state c.args.self.now.defined c.conflicts.self.defined assumed
          c.open.result c.conflicts.conflict c.lits.result.now c.conflicts.invariant.same
          c.conflicts.invariant.right c.conflicts.invariant.defined
          c.conflicts.invariant.down.is_trail c.conflicts.invariant.of_store
          c.conflicts.invariant.conflict
          (subst (λ clauses. slice_get clauses c.conflicts.conflict.0 ≡ Some c.lits.result.now)
          c.store.ensures.store c.lits.ensures.lits)
          (sym c.if-level-eq0.true ∙ c.greatest_level-level.ensures
          ∙ ap (λ t. greatest_level t.steps c.lits.result.now) c.trail.ensures.trail)
          c.open.ensures;
      counted =
          subst (IsBelow c.args.stop) (sym c.conflicts.invariant.budget)
          (room_below c.args.stop c.args.budget.now c.requires.room);
    }

pub conflicts-smaller : goal.conflicts-smaller
conflicts-smaller g c =
    omega (
      arith,
      c.in_ok-resolve.ensures.taught.lower,
      c.in_ok-resolve.ensures.taught.back.present,
      same_level c.resolve.new.self.state.trail c.propagate.new.self.trail
          c.propagate.ensures.propagated.extends,
    )

pub conflicts-preserved : goal.conflicts-preserved
conflicts-preserved g c = record {
  right =
      right_propagated c.in_ok-resolve.ensures.right c.propagate.ensures.propagated;
  same =
      (same_then (g.T.Theory.meaning c.args.self.now.theory)
      (g.T.Theory.meaning c.conflicts.self.theory) (g.T.Theory.meaning c.resolve.new.self.theory)
      c.conflicts.invariant.same c.in_ok-resolve.ensures.same);
  defined = c.in_ok-resolve.ensures.defined ∙ c.conflicts.invariant.defined;
  dead = c.resolve.ensures.dead ∙ c.conflicts.invariant.dead;
  places = c.resolve.ensures.places ∙ c.conflicts.invariant.places;
  budget = c.conflicts.invariant.budget;
  conflict = c.in-Some.ensures.some;
  down =
      down_further c.args.self.now.state c.conflicts.self.state c.resolve.new.self.state
      c.propagate.new.self c.resolve.new.self.learned c.conflicts.invariant.down
      c.in_ok-resolve.ensures.taught c.propagate.ensures.propagated;
  of_store = c.propagate.ensures.propagated.of_store;
}

pub take_learned-requires-clause-learned : goal.take_learned-requires-clause-learned
take_learned-requires-clause-learned g c =
    learned_extended c.resolve.new.self.state c.propagate.new.self
    c.resolve.new.self.learned.clause c.resolve.new.self.learned.asserting
    c.propagate.ensures.propagated c.in_ok-resolve.ensures.taught.is_learned

pub returns-in-None-clause-on : goal.returns-in-None-clause-on
returns-in-None-clause-on g c =
    let down =
    down_further c.args.self.now.state c.conflicts.self.state c.resolve.new.self.state
    c.propagate.new.self c.resolve.new.self.learned c.conflicts.invariant.down
    c.in_ok-resolve.ensures.taught c.propagate.ensures.propagated in
    on_ok_then c.take_learned.result c.take_learned.ensures.on
    (λ on assumed order. goes_on_then (g.T.Theory.meaning c.args.self.now.theory)
    (g.T.Theory.meaning c.resolve.new.self.theory) assumed c.args.self.now.state
    c.propagate.new.self c.take_learned.new.self.state c.args.budget.now c.conflicts.budget
    c.take_learned.new.budget
    (same_then (g.T.Theory.meaning c.args.self.now.theory)
    (g.T.Theory.meaning c.conflicts.self.theory) (g.T.Theory.meaning c.resolve.new.self.theory)
    c.conflicts.invariant.same c.in_ok-resolve.ensures.same)
    (goes_on_down (g.T.Theory.meaning c.args.self.now.theory) assumed c.args.self.now.state
    c.propagate.new.self c.args.budget.now c.conflicts.budget c.conflicts.invariant.budget
    down)
    (on assumed
    (opposed_further c.conflicts.self.state c.resolve.new.self.state c.propagate.new.self
    c.resolve.new.self.learned assumed c.in_ok-resolve.ensures.taught
    c.propagate.ensures.propagated (c.conflicts.invariant.down.order assumed order))))

pub returns-in-None-clause-counted : goal.returns-in-None-clause-counted
returns-in-None-clause-counted g c assumed order =
    let down =
    down_further c.args.self.now.state c.conflicts.self.state c.resolve.new.self.state
    c.propagate.new.self c.resolve.new.self.learned c.conflicts.invariant.down
    c.in_ok-resolve.ensures.taught c.propagate.ensures.propagated in
    subst
    (λ d. HasCounted (g.T.Theory.meaning c.args.self.now.theory) assumed d
    c.args.self.now.state.clauses c.args.budget.now c.take_learned.new.budget)
    (c.in_ok-resolve.ensures.defined ∙ c.conflicts.invariant.defined)
    (counted_then (g.T.Theory.meaning c.args.self.now.theory)
    (g.T.Theory.meaning c.resolve.new.self.theory) (g.T.Theory.followed c.resolve.new.self.theory)
    c.resolve.new.self.defined assumed c.args.self.now.state c.propagate.new.self
    c.args.budget.now c.conflicts.budget c.take_learned.new.budget
    (same_then (g.T.Theory.meaning c.args.self.now.theory)
    (g.T.Theory.meaning c.conflicts.self.theory) (g.T.Theory.meaning c.resolve.new.self.theory)
    c.conflicts.invariant.same c.in_ok-resolve.ensures.same)
    (right_propagated c.in_ok-resolve.ensures.right c.propagate.ensures.propagated)
    (goes_on_down (g.T.Theory.meaning c.args.self.now.theory) assumed c.args.self.now.state
    c.propagate.new.self c.args.budget.now c.conflicts.budget c.conflicts.invariant.budget
    down)
    (c.take_learned.ensures.counted assumed
    (opposed_further c.conflicts.self.state c.resolve.new.self.state c.propagate.new.self
    c.resolve.new.self.learned assumed c.in_ok-resolve.ensures.taught
    c.propagate.ensures.propagated (c.conflicts.invariant.down.order assumed order))))

pub returns-in-None-clause-turn : goal.returns-in-None-clause-turn
returns-in-None-clause-turn g c =
    if_ok_then
    (HasTaken c.args.stop c.propagate.new.self c.take_learned.new.self.state
    c.resolve.new.self.learned.asserting c.take_learned.new.budget)
    (λ turn. (assumed : _) → IsTurn (g.T.Theory.meaning c.args.self.now.theory)
    c.args.self.now.defined assumed c.args.stop c.args.self.now.state
    c.take_learned.new.self.state c.take_learned.new.budget turn)
    c.take_learned.result c.take_learned.ensures.turn
    (λ turn taken assumed. turn_taken (g.T.Theory.meaning c.args.self.now.theory)
    c.args.self.now.defined assumed c.args.stop c.args.self.now.state c.conflicts.self.state
    c.resolve.new.self.state c.propagate.new.self c.take_learned.new.self.state
    c.resolve.new.self.learned c.take_learned.new.budget turn c.conflicts.invariant.down
    c.in_ok-resolve.ensures.taught c.propagate.ensures.propagated taken)

pub returns-in_err-resolve-clause-counted : goal.returns-in_err-resolve-clause-counted
returns-in_err-resolve-clause-counted g c assumed order =
    counted_none (g.T.Theory.meaning c.args.self.now.theory) assumed c.args.self.now.defined
    c.args.self.now.state.clauses c.args.budget.now c.conflicts.budget c.conflicts.invariant.budget

pub take_learned-requires-clause-right : goal.take_learned-requires-clause-right
take_learned-requires-clause-right g c =
    right_propagated c.in_ok-resolve.ensures.right c.propagate.ensures.propagated

pub returns-in-None-clause-same : goal.returns-in-None-clause-same
returns-in-None-clause-same g c =
    same_then (g.T.Theory.meaning c.args.self.now.theory)
    (g.T.Theory.meaning c.resolve.new.self.theory)
    (g.T.Theory.meaning c.take_learned.new.self.theory)
    (same_then (g.T.Theory.meaning c.args.self.now.theory)
    (g.T.Theory.meaning c.conflicts.self.theory) (g.T.Theory.meaning c.resolve.new.self.theory)
    c.conflicts.invariant.same c.in_ok-resolve.ensures.same) c.take_learned.ensures.same

pub returns-in-None-clause-keeps : goal.returns-in-None-clause-keeps
returns-in-None-clause-keeps g c =
    let down =
    down_further c.args.self.now.state c.conflicts.self.state c.resolve.new.self.state
    c.propagate.new.self c.resolve.new.self.learned c.conflicts.invariant.down
    c.in_ok-resolve.ensures.taught c.propagate.ensures.propagated in
    on_ok_then c.take_learned.result c.take_learned.ensures.keeps
    (λ keeps assumed places are. keeps assumed places (down.keeps assumed places are))
