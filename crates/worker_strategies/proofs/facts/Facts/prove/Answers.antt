use Rattle.std.proofs.Common.{ap, arith, subst, sym, ◌∙◌}
use Rattle.worker_strategies.specs.declared.facts.Facts.{Facts}
use Rattle.worker_strategies.specs.Facts.{HasProved}
use Rattle.worker_strategies.specs.Links.{IsNext, Linked}
use Rattle.worker_strategies.proofs.FactLemmas.{next_code, one_comes}
use Rattle.worker_strategies.proofs.facts.Facts.prove.Goals as goal
use Rattle.worker_strategies.proofs.facts.Facts.prove.Goals.{then-mark_new+in_ok-push, else-mark_new}

pub cands-preserved : goal.cands-preserved
cands-preserved c =
    let old = c.args.self.now in
    let code = c.cands.invariant.2 (let above = c.cands-test.true in omega (arith, above)) in
    let same = ap (λ it. it.links) c.cands.invariant.0 in (
      ap (λ (it : Facts). record it { proved = c.mark_new.new.marks }) c.cands.invariant.0,
      elim c.if-mark_new.branch [
        | then-mark_new+in_ok-push w ↦
            one_comes old.links c.args.lit c.args.proved.now c.cands.proved c.if-mark_new.proved
            c.cands.cand c.cands.invariant.1 code (w.proved-is ∙ w.in_ok-push.ensures.ok)
        | else-mark_new w ↦
            subst (HasProved old.links c.args.lit c.args.proved.now) (sym w.proved-is)
            c.cands.invariant.1
      ],
      λ some.
          next_code old.links c.args.lit c.cands.cand c.smaller_than-cand.result code
          (subst
          (λ (it : Linked). IsNext it.normal.names it.mode c.cands.cand c.smaller_than-cand.result)
          same (c.smaller_than-cand.ensures some)),
    )
