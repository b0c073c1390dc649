use Rattle.std.proofs.Common.{subst, sym}
use Rattle.std.specs.Prelude.{All}
use Rattle.clause_store.specs.Clause.{IsOver}
use Rattle.search_heuristics.proofs.PlaceLemmas.{places_with_more}
use Rattle.assumption_engine.proofs.MarkLemmas.{task_of_choice}
use Rattle.assumption_engine.proofs.SameLemmas.{right_asked, right_propagated}
use Rattle.assumption_engine.proofs.engine.Engine.next_task.Goals as goal

pub returns-in-Some-clause-right : goal.returns-in-Some-clause-right
returns-in-Some-clause-right g c =
    right_propagated c.requires.right c.propagate.ensures.propagated

pub returns-in-Clause-clause-right : goal.returns-in-Clause-clause-right
returns-in-Clause-clause-right g c =
    right_asked (right_propagated c.requires.right c.propagate.ensures.propagated)
    c.propagate-2.ensures.same c.trail.ensures.trail c.propagate-2.ensures.followed

pub returns-in-Quiet-clause-right : goal.returns-in-Quiet-clause-right
returns-in-Quiet-clause-right g c =
    right_asked (right_propagated c.requires.right c.propagate.ensures.propagated)
    c.propagate-2.ensures.same c.trail.ensures.trail c.propagate-2.ensures.followed

pub returns-in-Some-clause-places : goal.returns-in-Some-clause-places
returns-in-Some-clause-places g c =
    places_with_more c.args.assumed.now c.args.self.now.state.trail.steps
    c.propagate.new.self.trail.steps c.propagate.ensures.propagated.extends.added
    c.args.self.now.steering.places c.propagate.ensures.propagated.extends.steps
    c.propagate.ensures.propagated.extends.present c.requires.places

pub returns-in-Clause-clause-places : goal.returns-in-Clause-clause-places
returns-in-Clause-clause-places g c =
    places_with_more c.args.assumed.now c.args.self.now.state.trail.steps
    c.propagate.new.self.trail.steps c.propagate.ensures.propagated.extends.added
    c.args.self.now.steering.places c.propagate.ensures.propagated.extends.steps
    c.propagate.ensures.propagated.extends.present c.requires.places

pub choose-requires-clause-places : goal.choose-requires-clause-places
choose-requires-clause-places g c =
    places_with_more c.args.assumed.now c.args.self.now.state.trail.steps
    c.propagate.new.self.trail.steps c.propagate.ensures.propagated.extends.added
    c.args.self.now.steering.places c.propagate.ensures.propagated.extends.steps
    c.propagate.ensures.propagated.extends.present c.requires.places

pub choose-requires-clause-over : goal.choose-requires-clause-over
choose-requires-clause-over g c =
    subst (λ n. All (IsOver n) c.args.assumed.now)
    (sym c.propagate.ensures.propagated.extends.vars) c.requires.over

pub returns-in-Quiet-clause-task : goal.returns-in-Quiet-clause-task
returns-in-Quiet-clause-task g c =
    task_of_choice (g.T.Theory.meaning c.propagate-2.new.self) c.args.assumed.now
    c.propagate.new.self c.propagate-2.new.out c.choose.result c.choose.ensures.choice
