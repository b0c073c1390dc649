use Rattle.std.proofs.Common.{get_or, sym, subst}
use Rattle.std.specs.Prelude.{All}
use Rattle.std.proofs.lemmas.List.Elements.{All-drop, All-nil, All-take}
use Rattle.clause_store.specs.Clause.{IsOver}
use Rattle.conflict_learning.specs.Analysis.{IsVariable}
use Rattle.conflict_learning.proofs.AssignedLemmas.{false_over}
use Rattle.conflict_learning.proofs.MarkLemmas.{steps_over}
use Rattle.conflict_learning.proofs.walk.Walk.list_visited.Goals as goal

pub returns : goal.returns
returns c =
    c.in_ok-list_lits.ensures c.args.trail.now.vars
    (subst (All (IsOver c.args.trail.now.vars)) (sym c.as_slice.ensures)
    (λ k d inside. false_over c.args.trail.now (get_or c.args.self.now.clause k d)
    c.requires.under_way.is_trail (c.requires.under_way.lower k d inside).is_false))
    (c.in_ok-list_steps.ensures c.args.trail.now.vars
    (steps_over c.args.trail.now.vars _
    (All-take (λ step. IsOver c.args.trail.now.vars step.lit) _ _
    (All-drop (λ step. IsOver c.args.trail.now.vars step.lit) c.args.self.now.at
    c.steps.result.now
    (subst (All (λ step. IsOver c.args.trail.now.vars step.lit)) (sym c.steps.ensures.steps)
    c.requires.under_way.is_trail.over))))
    (subst (All (IsVariable c.args.trail.now.vars)) (sym c.clear.ensures)
    (All-nil (IsVariable c.args.trail.now.vars))))
