use Rattle.std.proofs.Common.{◌≡◌, ◌++◌, ◌∷◌, [], List, length, get_or, set, sym, subst, ◌∙◌}
use Rattle.master_record.specs.declared.worker.Worker.{Worker}
use Rattle.master_record.specs.declared.worker.Plan.{Plan}
use Rattle.master_record.specs.Rounds.{follow}
use Rattle.master_record.proofs.FollowLemmas.{AreFollowed, follow_one}
use Rattle.master_record.proofs.giving.follow_all.Goals as goal

pub loop-plan-preserved : goal.loop-plan-preserved
loop-plan-preserved c =
    let old : List Worker = c.args.workers.now.items in
    let plans : List Plan = c.args.plans.items in
    let left : List Plan = c.pop.new.self.items in
    let now : List Worker = c.loop-plan.workers.items in
    let worker : Worker = c.index_mut.result.now in
    let was : AreFollowed old plans (left ++ c.in-Some.plan ∷ []) now =
    subst (λ (xs : List Plan). AreFollowed old plans xs now) c.in-Some.ensures.items
    c.loop-plan.invariant in
    let place : c.len.result ≡ length left = c.len.ensures ∙ c.pop.new.self.ok.0 in
    let here : worker ≡ get_or now (length left) worker =
    subst (λ n. worker ≡ get_or now n worker) place c.index_mut.ensures.value in
    subst (λ (w : Worker). AreFollowed old plans left (set now c.len.result w))
    (sym c.follow.ensures)
    (subst (λ n. AreFollowed old plans left (set now n (follow worker c.in-Some.plan))) (sym place)
    (follow_one old plans left c.in-Some.plan now was worker here))
