use Rattle.std.proofs.Common.{sym, subst}
use Rattle.std.specs.Prelude.{All}
use Rattle.clause_store.specs.Clause.{IsOver}
use Rattle.assumption_engine.specs.Engine.{IsModelOf}
use Rattle.assumption_engine.proofs.GoingLemmas.{right_added}
use Rattle.assumption_engine.proofs.SameLemmas.{model_back}
use Rattle.assumption_engine.proofs.engine.Engine.add.Goals as goal

pub add-requires-clause-over : goal.add-requires-clause-over
add-requires-clause-over g c =
    subst (λ t. All (IsOver t.vars) c.args.lits.now) (sym c.in_ok-begin.ensures.back.trail)
    (c.requires.over c.in_ok-begin.ensures.alive)

pub returns-clause-right : goal.returns-clause-right
returns-clause-right g c alive =
    right_added (g.T.Theory.meaning c.begin.new.self.theory)
    (g.T.Theory.followed c.begin.new.self.theory) c.begin.new.self.state c.add.new.self
    c.begin.new.self.defined c.args.lits.now c.in_ok-begin.ensures.right c.in_ok-add.ensures.ok
    (λ values model. c.requires.holds values
    (subst (λ d. IsModelOf (g.T.Theory.meaning c.args.self.now.theory) d values)
    c.begin.ensures.defined
    (model_back (g.T.Theory.meaning c.args.self.now.theory)
    (g.T.Theory.meaning c.begin.new.self.theory) c.begin.new.self.defined values
    c.begin.ensures.same model)))
