use Rattle.std.proofs.Common.{◌+◌, ◌^◌, length, refl, sym, ap, subst, ◌∙◌, arith}
use Rattle.std.specs.Prelude.{All}
use Rattle.clause_store.specs.Clause.{IsOver}
use Rattle.assumption_engine.specs.Answer.{HasEnded, IsTurn}
use Rattle.assumption_engine.specs.declared.answer.Turn.TheVariants.{Ended}
use Rattle.assumption_engine.proofs.SameLemmas.{same_then}
use Rattle.assumption_engine.proofs.TurnLemmas.{few_came, fewer_turns, turn_then}
use Rattle.assumption_engine.proofs.StepLemmas.{counted_on, on_then}
use Rattle.assumption_engine.proofs.engine.Engine.run.Goals as goal

pub turn-requires : goal.turn-requires
turn-requires g c =
    record {
      may =
          record {
            right = c.turns.invariant.right;
            over =
                subst (λ n. All (IsOver n) c.args.assumed.now) (sym c.turns.invariant.on.vars)
                c.requires.may.over;
            order = c.turns.invariant.on.order c.requires.may.order;
            room = c.turns.invariant.room;
          };
      places = c.turns.invariant.places;
    }

pub returns-in_err-turn-clause-counted : goal.returns-in_err-turn-clause-counted
returns-in_err-turn-clause-counted g c =
    counted_on c.turns.invariant.defined c.turns.invariant.same c.turns.invariant.right
    c.turns.invariant.on c.turn.ensures.counted

pub turns-smaller : goal.turns-smaller
turns-smaller g c =
    let on =
    on_then c.turns.invariant.same c.turns.invariant.on c.in_ok-turn.ensures.turn.on in
    let going =
    subst
    (IsTurn (g.T.Theory.meaning c.turns.self.theory) c.turns.self.defined c.args.assumed.now
    c.args.stop c.turns.self.state c.turn.new.self.state c.turn.new.budget) c.in-Going.is
    c.in_ok-turn.ensures.turn.does in
    fewer_turns (length c.args.self.now.state.clauses + 3 ^ c.args.self.now.state.trail.vars)
    c.args.self.now.state.trail.vars c.turns.self.state c.turn.new.self.state
    c.vouch.ensures.is_trail on.vars
    (few_came (g.T.Theory.meaning c.args.self.now.theory) c.args.assumed.now
    c.args.self.now.state c.turn.new.self.state c.args.budget.now c.turn.new.budget
    c.args.self.now.state.trail.vars on c.vouch.ensures.over on.vars)
    going.nearer

pub turns-preserved : goal.turns-preserved
turns-preserved g c =
    let going =
    subst
    (IsTurn (g.T.Theory.meaning c.turns.self.theory) c.turns.self.defined c.args.assumed.now
    c.args.stop c.turns.self.state c.turn.new.self.state c.turn.new.budget) c.in-Going.is
    c.in_ok-turn.ensures.turn.does in
    let limit = ap (λ b. b.limit) c.in_ok-turn.ensures.turn.on.counts in
    record {
      right = c.in_ok-turn.ensures.turn.right;
      same =
          same_then (g.T.Theory.meaning c.args.self.now.theory)
          (g.T.Theory.meaning c.turns.self.theory) (g.T.Theory.meaning c.turn.new.self.theory)
          c.turns.invariant.same c.turn.ensures.same;
      defined = c.turn.ensures.defined ∙ c.turns.invariant.defined;
      dead = c.turn.ensures.dead ∙ c.turns.invariant.dead;
      on =
          on_then c.turns.invariant.same c.turns.invariant.on c.in_ok-turn.ensures.turn.on;
      room =
          record {
            below = going.below;
            within = omega (arith, limit, c.turns.invariant.room.within);
          };
      places = c.in_ok-turn.ensures.places;
    }

pub returns-in-Ended-clause-counted : goal.returns-in-Ended-clause-counted
returns-in-Ended-clause-counted g c =
    counted_on c.turns.invariant.defined c.turns.invariant.same c.turns.invariant.right
    c.turns.invariant.on c.turn.ensures.counted

pub returns-in-Ended-clause-answer : goal.returns-in-Ended-clause-answer
returns-in-Ended-clause-answer g c =
    record {
      right = c.in_ok-turn.ensures.turn.right;
      on =
          on_then c.turns.invariant.same c.turns.invariant.on c.in_ok-turn.ensures.turn.on;
      does =
          subst
          (λ d. HasEnded (g.T.Theory.meaning c.args.self.now.theory) d c.args.assumed.now
          c.args.stop
          c.turn.new.self.state c.turn.new.budget c.in-Ended.answer) c.turns.invariant.defined
          (turn_then (g.T.Theory.meaning c.args.self.now.theory)
          (g.T.Theory.meaning c.turns.self.theory) c.turns.self.defined c.args.assumed.now
          c.args.stop c.turns.self.state c.turns.self.state c.turn.new.self.state
          c.turn.new.budget (Ended c.in-Ended.answer) c.turns.invariant.same refl (omega arith)
          (subst
          (IsTurn (g.T.Theory.meaning c.turns.self.theory) c.turns.self.defined c.args.assumed.now
          c.args.stop c.turns.self.state c.turn.new.self.state c.turn.new.budget) c.in-Ended.is
          c.in_ok-turn.ensures.turn.does));
    }
