use Rattle.std.proofs.Common.{◌≡◌, ◌<◌, ◌+◌, ◌++◌, ◌∷◌, [], ℕ, List, length, refl, sym, ap}
use Rattle.std.proofs.Common.{subst, ◌∙◌, arith, length-append, Some}
use Rattle.std.specs.Prelude.{slice_get}
use Rattle.std.proofs.lemmas.Option.{slice_get_read}
use Rattle.worker_jobs.specs.declared.job.Job.{Job}
use Rattle.master_record.specs.declared.worker.Worker.{Worker}
use Rattle.master_record.specs.Books.{Books}
use Rattle.master_record.specs.declared.worker.Plan.{Plan}
use Rattle.master_record.proofs.JobLemmas.{ArePlans, one_plan_more}
use Rattle.master_record.proofs.master.Master.plans.Goals as goal

pub loop-at-preserved : goal.loop-at-preserved
loop-at-preserved c =
    let books : Books = c.args.self.now in
    let at : ℕ = c.loop-at.at in
    let jobs : List Job = c.args.jobs.now in
    let plans : List Plan = c.loop-at.plans.items in
    let plan : Plan = c.in_ok-plan.plan in
    let worker : Worker = c.index-workers-at.result in
    let job : Job = c.index-jobs-at.result in
    let pushed : c.push.new.self.items ≡ plans ++ plan ∷ [] = c.in_ok-push.ensures.items in
    let longer : length (plans ++ plan ∷ []) ≡ length plans + 1 = length-append plans (plan ∷ []) in
    let workers_are : c.as_slice-workers.result.now ≡ books.workers =
    c.as_slice-workers.ensures.value ∙ ap (λ (b : Books). b.workers) c.self.view_is in
    let within : at < length c.as_slice-workers.result.now = omega arith in
    let among : at < length jobs =
    subst (λ n. at < n) (ap length workers_are ∙ sym c.requires) within in
    let here : slice_get books.workers at ≡ Some worker =
    subst (λ (ws : List Worker). slice_get ws at ≡ Some worker) workers_are
    (slice_get_read c.as_slice-workers.result.now (length c.as_slice-workers.result.now) at worker
    refl within c.index-workers-at.is) in
    let there : slice_get jobs at ≡ Some job =
    slice_get_read jobs (length jobs) at job refl among c.index-jobs-at.is in
    record {
      count = ap length pushed ∙ longer ∙ ap (λ n. n + 1) c.loop-at.invariant.count;
      so_far = subst (ArePlans books jobs) (sym pushed)
          (one_plan_more books jobs plans at worker job plan c.loop-at.invariant.so_far
          c.loop-at.invariant.count here there c.in_ok-plan.ensures.plan c.in_ok-plan.ensures.room);
    }
