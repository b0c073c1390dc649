use Rattle.std.proofs.Common.{get_or, map, sym, subst}
use Rattle.std.proofs.lemmas.List.Elements.{All-contains_itself}
use Rattle.clause_store.proofs.LiteralLemmas.{has_mapped}
use Rattle.conflict_learning.specs.Marks.{ListsVariables}
use Rattle.conflict_learning.proofs.AssignedLemmas.{blank}
use Rattle.conflict_learning.proofs.MarkLemmas.{lists_more}
use Rattle.conflict_learning.proofs.marks.list_steps.Goals as goal
use Rattle.conflict_learning.proofs.marks.list_steps.Goals.{then-marks-var+in_ok-push}
use Rattle.conflict_learning.proofs.marks.list_steps.Goals.{else-marks-var}

pub loop-step-preserved : goal.loop-step-preserved
loop-step-preserved c =
    elim c.if-marks-var.branch [
      | then-marks-var+in_ok-push w ↦
          subst (ListsVariables (map (λ step. step.lit) c.args.steps.now) c.args.visited.now)
          (sym w.visited-is)
          (lists_more (map (λ step. step.lit) c.args.steps.now) c.args.visited.now
          c.loop-step.visited w.push.new.self
          (get_or c.args.steps.now c.loop-step.step-index blank).lit c.var-var.result
          c.loop-step.invariant
          (has_mapped (λ step. step.lit) c.args.steps.now
          (get_or c.args.steps.now c.loop-step.step-index blank)
          (All-contains_itself c.args.steps.now c.loop-step.step-index blank
          c.loop-step-test.true))
          c.var-var.ensures w.in_ok-push.ensures.ok)
      | else-marks-var w ↦
          subst (ListsVariables (map (λ step. step.lit) c.args.steps.now) c.args.visited.now)
          (sym w.visited-is) c.loop-step.invariant
    ]
