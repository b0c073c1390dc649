use Rattle.std.proofs.Common.{◌∙◌, ◌++◌, ◌∷◌, [], List, ap, subst, arith}
use Rattle.clause_store.specs.declared.literal.Lit.{Lit}
use Rattle.weight_propagator.specs.Rows.{IsReason, goal_of}
use Rattle.weight_propagator.proofs.GivenLemmas.{given_by}
use Rattle.weight_propagator.proofs.row.Row.write.Goals as goal

pub returns : goal.returns
returns c =
    given_by c.args.trail.now.vars c.args.trail.now c.args.self.now c.args.side c.args.extra
    c.collect.new.out c.requires.row (omega arith) c.requires.cause
    (subst
    (λ (old : List Lit). IsReason c.args.side c.args.trail.now.steps c.args.extra
    c.args.self.now.terms (goal_of c.args.side c.args.self.now) old c.collect.new.out)
    (c.in_ok-push.ensures.ok ∙ ap (λ lits. lits ++ c.head.result ∷ []) c.clear.ensures
    ∙ ap (λ lit. lit ∷ []) c.head.ensures)
    c.in_ok-collect.ensures)
