use Rattle.std.proofs.Common.{ap, [], ◌∷◌, ◌++◌, ◌∙◌, arith, sym, subst}
use Rattle.std.specs.Prelude.{All}
use Rattle.std.proofs.lemmas.List.Elements.{All-contains, Contains-push}
use Rattle.clause_store.specs.Clause.{IsOver}
use Rattle.assumption_engine.specs.Sided.{negative}
use Rattle.assumption_engine.specs.Selector.{selector_clause}
use Rattle.assumption_engine.proofs.GoingLemmas.{right_defined, with_clause}
use Rattle.assumption_engine.proofs.engine.Engine.define.Goals as goal

pub clause_of-requires : goal.clause_of-requires
clause_of-requires g c =
    let over =
    All-contains (IsOver c.args.self.now.state.trail.vars)
    (selector_clause c.args.selector.0 c.args.any.now) (negative c.args.selector.0)
    (c.requires.over c.in_ok-begin.ensures.alive)
    (Contains-push c.args.any.now (negative c.args.selector.0)) in
    let same = ap (λ t. t.vars) c.in_ok-begin.ensures.back.trail in
    let there = ap (λ t. t.vars) c.trail.ensures.trail in
    omega (arith, over.last, same, there, c.vars-vars.ensures.few, c.vars-vars.ensures.vars)

pub add-requires-clause-over : goal.add-requires-clause-over
add-requires-clause-over g c =
    subst (λ lits. All (IsOver c.begin.new.self.state.trail.vars) lits)
    (sym (c.as_slice.ensures ∙ c.in_ok-clause.ensures))
    (subst (λ t. All (IsOver t.vars) (selector_clause c.args.selector.0 c.args.any.now))
    (sym c.in_ok-begin.ensures.back.trail) (c.requires.over c.in_ok-begin.ensures.alive))

pub returns-clause-right : goal.returns-clause-right
returns-clause-right g c alive =
    right_defined (g.T.Theory.meaning c.begin.new.self.theory)
    (g.T.Theory.followed c.begin.new.self.theory) c.begin.new.self.state c.add.new.self
    c.begin.new.self.defined c.push.new.self (selector_clause c.args.selector.0 c.args.any.now)
    c.in_ok-begin.ensures.right
    (c.in_ok-add.ensures.ok ∙ ap (with_clause c.begin.new.self.state)
    (c.as_slice.ensures ∙ c.in_ok-clause.ensures))
    (c.in_ok-push.ensures.ok ∙ ap (λ lits. c.begin.new.self.defined ++ lits ∷ [])
    c.in_ok-clause.ensures)
