use Rattle.std.proofs.Common.{◌≤◌, length, ap, ◌∙◌, arith}
use Rattle.clause_store.specs.Trail.{up_to}
use Rattle.search_heuristics.proofs.PlaceLemmas.{places_after_back}
use Rattle.assumption_engine.proofs.GoingLemmas.{goes_on_given, goes_on_then, right_added}
use Rattle.assumption_engine.proofs.GoingLemmas.{with_clause}
use Rattle.assumption_engine.proofs.SameLemmas.{same_itself}
use Rattle.assumption_engine.proofs.StepLemmas.{goes_on_back}
use Rattle.assumption_engine.proofs.TurnLemmas.{given_is_unit}
use Rattle.assumption_engine.proofs.engine.Engine.take_given.Goals as goal

pub go_back-requires-clause-right : goal.go_back-requires-clause-right
go_back-requires-clause-right g c =
    right_added (g.T.Theory.meaning c.args.self.now.theory)
    (g.T.Theory.followed c.args.self.now.theory) c.args.self.now.state c.add.new.self
    c.args.self.now.defined c.args.self.now.given c.requires.right
    (c.in_ok-add.ensures.ok ∙ ap (with_clause c.args.self.now.state) c.as_slice.ensures)
    (λ values model. c.requires.given.holds values model.model)

pub returns-clause-on : goal.returns-clause-on
returns-clause-on g c assumed counted =
    let some : 1 ≤ length c.args.self.now.given = omega (arith, c.len.ensures) in
    goes_on_then (g.T.Theory.meaning c.args.self.now.theory)
    (g.T.Theory.meaning c.args.self.now.theory) assumed c.args.self.now.state c.add.new.self
    c.go_back.new.self.state counted counted counted
    (same_itself (g.T.Theory.meaning c.args.self.now.theory))
    (goes_on_given (g.T.Theory.meaning c.args.self.now.theory) assumed c.args.self.now.state
    c.add.new.self counted c.args.self.now.given c.requires.given.may
    (given_is_unit (g.T.Theory.meaning c.args.self.now.theory) c.args.self.now.state.clauses
    c.args.self.now.state.trail c.args.self.now.given c.vouch.ensures.is_trail c.requires.fixpoint
    c.requires.given some)
    (c.in_ok-add.ensures.ok ∙ ap (with_clause c.args.self.now.state) c.as_slice.ensures))
    (goes_on_back c.go_back.ensures.back)

pub returns-clause-keeps : goal.returns-clause-keeps
returns-clause-keeps g c assumed places are =
    places_after_back assumed c.args.self.now.state.trail.steps
    c.go_back.new.self.state.trail.steps c.acting_level-level.result places
    (ap (λ t. t.steps) c.go_back.ensures.back.trail
    ∙ ap (λ t. up_to c.acting_level-level.result t.steps) c.in_ok-add.ensures.trail) are
