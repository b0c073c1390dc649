use Rattle.std.proofs.Common.{◌≡◌, sym, ap, subst, ◌∙◌}
use Rattle.worker_jobs.specs.declared.job.Job.{Job}
use Rattle.worker_jobs.specs.declared.job.Strategy.{Strategy}
use Rattle.worker_jobs.specs.declared.job.Strategy.TheVariants as Kinds
use Rattle.master_record.specs.Books.{Books}
use Rattle.master_record.specs.Jobs.{IsByStrategy}
use Rattle.master_record.proofs.master.Master.job_by.Goals as goal
use Rattle.master_record.proofs.master.Master.job_by.Goals.{in-Single}
use Rattle.master_record.proofs.master.Master.job_by.Goals.{in-Reduction+in_ok-job-in-Reduction}
use Rattle.master_record.proofs.master.Master.job_by.Goals.{in-Chunks+in_ok-job-in-Chunks}
use Rattle.master_record.proofs.master.Master.job_by.Goals.{in-Mix+in_ok-job-in-Mix}

pub returns : goal.returns
returns c =
    let books : Books = c.args.self.now in
    let was : books.strategy ≡ c.self.inside.strategy =
    ap (λ (b : Books). b.strategy) (sym c.self.view_is) in
    let by : Strategy → Job → Type 0 = λ strategy job.
    IsByStrategy books strategy c.args.earlier.now c.args.worker.now c.args.later.now
    c.args.number job in
    elim c.match-self.branch [
      | in-Single w ↦
          subst (λ (s : Strategy). by s c.match-self.job) (sym (was ∙ w.in-Single.is))
          (subst (by Kinds.Single) (sym w.job-is) w.single-job.ensures)
      | in-Reduction+in_ok-job-in-Reduction w ↦
          subst (λ (s : Strategy). by s c.match-self.job) (sym (was ∙ w.in-Reduction.is))
          (subst (by Kinds.Reduction) (sym w.job-is) w.in_ok-job-in-Reduction.ensures)
      | in-Chunks+in_ok-job-in-Chunks w ↦
          subst (λ (s : Strategy). by s c.match-self.job) (sym (was ∙ w.in-Chunks.is))
          (subst (by (Kinds.Chunks w.in-Chunks.size)) (sym w.job-is) w.in_ok-job-in-Chunks.ensures)
      | in-Mix+in_ok-job-in-Mix w ↦
          subst (λ (s : Strategy). by s c.match-self.job) (sym (was ∙ w.in-Mix.is))
          (subst (by Kinds.Mix) (sym w.job-is) w.in_ok-job-in-Mix.ensures)
    ]
