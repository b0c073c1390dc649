use Rattle.std.proofs.Common.{ap, ◌∙◌, subst}
use Rattle.clause_store.specs.Standing.{AreFollowed}
use Rattle.assumption_engine.proofs.SameLemmas.{right_moved}
use Rattle.assumption_engine.proofs.engine.Engine.go_back.Goals as goal

pub returns-clause-right : goal.returns-clause-right
returns-clause-right g c =
    right_moved (g.T.Theory.meaning c.args.self.now.theory)
    (g.T.Theory.meaning c.undo.new.self) (g.T.Theory.followed c.args.self.now.theory)
    (g.T.Theory.followed c.undo.new.self) c.args.self.now.state c.back_to.new.self
    c.args.self.now.defined c.undo.ensures.same c.requires.right
    (ap (λ s. s.dead) c.back_to.ensures.steps ∙ c.requires.right.alive)
    (ap (λ s. s.clauses) c.back_to.ensures.steps) (ap (λ s. s.trail.vars) c.back_to.ensures.steps)
    (subst (λ t. AreFollowed t.steps (g.T.Theory.followed c.undo.new.self)) c.trail-2.ensures.trail
    c.undo.ensures.followed)
