use Rattle.std.proofs.Common.{◌≡◌, ◌<◌, ◌+◌, ◌-◌, ◌++◌, ◌∷◌, [], ℕ, List, length, take, drop, refl}
use Rattle.std.proofs.Common.{sym, ap}
use Rattle.std.proofs.Common.{subst, ◌∙◌, arith, length-append, length-drop, Some}
use Rattle.std.proofs.lemmas.List.{take_all}
use Rattle.std.specs.Prelude.{slice_get}
use Rattle.std.proofs.lemmas.Option.{slice_get_read}
use Rattle.worker_jobs.specs.declared.job.Job.{Job}
use Rattle.master_record.specs.declared.worker.Worker.{Worker}
use Rattle.master_record.specs.Books.{Books}
use Rattle.master_record.specs.Jobs.{IsJob}
use Rattle.master_record.proofs.JobLemmas.{AreJobs, one_job_more}
use Rattle.master_record.proofs.master.Master.jobs.Goals as goal

pub loop-at-preserved : goal.loop-at-preserved
loop-at-preserved c =
    let books : Books = c.args.self.now in
    let at : ℕ = c.loop-at.at in
    let jobs : List Job = c.loop-at.jobs.items in
    let job : Job = c.in_ok-job.job in
    let worker : Worker = c.index-workers-at.result in
    let pushed : c.push.new.self.items ≡ jobs ++ job ∷ [] = c.in_ok-push.ensures.items in
    let longer : length (jobs ++ job ∷ []) ≡ length jobs + 1 = length-append jobs (job ∷ []) in
    let workers_are : c.as_slice-workers.result.now ≡ books.workers =
    c.as_slice-workers.ensures.value ∙ ap (λ (b : Books). b.workers) c.self.view_is in
    let within : at < length c.as_slice-workers.result.now = omega arith in
    let here : slice_get books.workers at ≡ Some worker =
    subst (λ (ws : List Worker). slice_get ws at ≡ Some worker) workers_are
    (slice_get_read c.as_slice-workers.result.now (length c.as_slice-workers.result.now) at worker
    refl within c.index-workers-at.is) in
    let seen : List Worker = c.as_slice-workers.result.now in
    let behind : take (length seen - (at + 1)) (drop (at + 1) seen) ≡ drop (at + 1) seen =
    take_all (length seen - (at + 1)) (drop (at + 1) seen)
    (omega (arith, length-drop (at + 1) seen)) in
    let is : IsJob books jobs worker (drop (at + 1) books.workers) (at + 1) job =
    subst (λ (xs : List Job). IsJob books xs worker (drop (at + 1) books.workers) (at + 1) job)
    c.deref.ensures.value
    (subst (λ (ws : List Worker). IsJob books c.deref.result.now worker (drop (at + 1) ws) (at + 1)
    job) workers_are
    (subst (λ (ws : List Worker). IsJob books c.deref.result.now worker ws (at + 1) job) behind
    c.in_ok-job.ensures)) in
    record {
      count = ap length pushed ∙ longer ∙ ap (λ n. n + 1) c.loop-at.invariant.count;
      so_far = subst (AreJobs books) (sym pushed)
          (one_job_more books jobs at worker job c.loop-at.invariant.so_far
          c.loop-at.invariant.count here is);
    }
