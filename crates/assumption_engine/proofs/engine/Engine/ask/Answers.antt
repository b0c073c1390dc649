use Rattle.std.proofs.Common.{◌+◌, length, sym, ap, subst}
use Rattle.std.specs.Prelude.{All}
use Rattle.clause_store.specs.Clause.{IsOver}
use Rattle.assumption_engine.specs.Answer.{HasEnded}
use Rattle.assumption_engine.proofs.GoingLemmas.{goes_on_then}
use Rattle.assumption_engine.proofs.SidedLemmas.{order_at_start, true_as_assumed}
use Rattle.assumption_engine.proofs.StepLemmas.{counted_on, goes_on_back}
use Rattle.assumption_engine.proofs.TurnLemmas.{ended_at_slice}
use Rattle.assumption_engine.proofs.engine.Engine.ask.Goals as goal

pub run-requires : goal.run-requires
run-requires g c =
    record {
      may =
          record {
            right = c.in_default.ensures.right;
            over =
                subst (λ t. All (IsOver t.vars) c.args.assume.now)
                (sym c.in_default.ensures.back.trail)
                (c.requires.over c.in_default.ensures.alive);
            order =
                order_at_start c.begin.new.self.state.clauses c.args.assume.now
                c.begin.new.self.state.trail c.in_default.ensures.back.is_trail
                c.in_default.ensures.back.of_store c.in_default.ensures.back.present;
            room = c.stop_of-stop.ensures.room;
          };
      places =
          c.begin-2.ensures c.args.assume.now c.begin.new.self.state.trail.steps
          c.in_default.ensures.back.present;
    }

pub returns-in-Ok-clause-on : goal.returns-in-Ok-clause-on
returns-in-Ok-clause-on g c alive =
    goes_on_then (g.T.Theory.meaning c.args.self.now.theory)
    (g.T.Theory.meaning c.begin.new.self.theory) c.args.assume.now c.args.self.now.state
    c.begin.new.self.state c.run.new.self.state c.args.budget.now c.args.budget.now
    c.run.new.budget c.in_default.ensures.same (goes_on_back c.in_default.ensures.back)
    c.in-Ok.ensures.answer.on

pub returns-in-Ok-clause-counted : goal.returns-in-Ok-clause-counted
returns-in-Ok-clause-counted g c =
    counted_on c.in_default.ensures.defined c.in_default.ensures.same
    c.in_default.ensures.right (goes_on_back c.in_default.ensures.back) c.in-Ok.ensures.counted

pub returns-in-Ok-clause-sided : goal.returns-in-Ok-clause-sided
returns-in-Ok-clause-sided g c alive var is is_yes =
    let on =
    goes_on_then (g.T.Theory.meaning c.args.self.now.theory)
    (g.T.Theory.meaning c.begin.new.self.theory) c.args.assume.now c.args.self.now.state
    c.begin.new.self.state c.run.new.self.state c.args.budget.now c.args.budget.now
    c.run.new.budget c.in_default.ensures.same (goes_on_back c.in_default.ensures.back)
    c.in-Ok.ensures.answer.on in
    true_as_assumed (g.T.Theory.meaning c.args.self.now.theory).may_give
    c.run.new.self.state.clauses c.args.assume.now c.run.new.self.state.trail.steps
    (c.in-Ok.ensures.answer.on.order
    (order_at_start c.begin.new.self.state.clauses c.args.assume.now
    c.begin.new.self.state.trail c.in_default.ensures.back.is_trail
    c.in_default.ensures.back.of_store c.in_default.ensures.back.present)) var (on.sided var is)
    is_yes

pub returns-in-Ok-clause-answer : goal.returns-in-Ok-clause-answer
returns-in-Ok-clause-answer g c other =
    subst
    (λ d. HasEnded (g.T.Theory.meaning c.args.self.now.theory) d c.args.assume.now
    (length c.args.budget.now.units + c.args.slice) c.run.new.self.state c.run.new.budget
    c.in-Ok.answer) c.in_default.ensures.defined
    (ended_at_slice (g.T.Theory.meaning c.args.self.now.theory)
    (g.T.Theory.meaning c.begin.new.self.theory) c.begin.new.self.defined
    c.args.assume.now c.stop_of-stop.result c.args.slice c.run.new.self.state
    c.args.budget.now c.run.new.budget c.in-Ok.answer c.in_default.ensures.same
    c.stop_of-stop.ensures (ap (λ b. b.limit) c.in-Ok.ensures.counted.counts)
    c.in-Ok.ensures.answer.does)

pub returns-in-Err-run-clause-counted : goal.returns-in-Err-run-clause-counted
returns-in-Err-run-clause-counted g c =
    counted_on c.in_default.ensures.defined c.in_default.ensures.same
    c.in_default.ensures.right (goes_on_back c.in_default.ensures.back) c.in-Err-run.ensures.counted
