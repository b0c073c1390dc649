-- Jobs are over candidates.
use Rattle.std.proofs.Common.{◌≡◌, ◌≤◌, ◌<◌, ◌+◌, ℕ, List, length, take, drop, get_or}
use Rattle.std.proofs.Common.{sym, subst, inl, inr, arith, Some, None}
use Rattle.std.proofs.Common.{Bool}
use Rattle.std.specs.Prelude.{slice_get, All, Vec}
use Rattle.std.specs.declared.alloc.Global.{Global}
use Rattle.normal_program.specs.declared.spent.SpentTest.{SpentTest}
use Rattle.std.proofs.lemmas.List.{length-take}
use Rattle.std.proofs.lemmas.List.Elements.{All-take}
use Rattle.std.proofs.lemmas.Option.{slice_get-get_or}
use Rattle.worker_jobs.specs.declared.job.Job.{Job}
use Rattle.worker_jobs.specs.declared.job.Job.TheVariants.{Idle}
use Rattle.worker_jobs.specs.declared.job.Strategy.{Strategy}
use Rattle.worker_jobs.specs.declared.job.Strategy.TheVariants as Kinds
use Rattle.worker_jobs.specs.Job.{IsJobOver}
use Rattle.ground_program.specs.Bounds.{IsCandidate}
use Rattle.master_record.specs.declared.worker.Worker.{Worker}
use Rattle.master_record.specs.Books.{Books, open_list, IsStrategy}
use Rattle.master_record.specs.Jobs.{IsSingle, IsReduction, IsChunk, IsByStrategy, IsJob, HasJob}
use Rattle.master_record.specs.Jobs.{HasGiven}
use Rattle.master_record.specs.declared.own.OwnTest.{OwnTest}
use Rattle.master_record.specs.Sound.{IsKept}
use Rattle.master_record.proofs.SpendLemmas.{kept_workers}
use Rattle.master_record.proofs.ProvedLemmas.{open_candidates_are}

module _ (books : Books) (earlier : List Job) (worker : Worker) (later : List Worker)
    (number : ℕ) where
  abbrev IsOver : Job → Type 0
  IsOver job = IsJobOver books.normal.names job

  single_over : (job : Job) → IsSingle books earlier later job → IsOver job
  single_over job (inl (cand, is, free)) = subst IsOver (sym is) free.untested.unsettled.candidate
  single_over job (inr (is, none)) = subst IsOver (sym is) tt

  reduction_over : (job : Job) → IsReduction books earlier worker later job → IsOver job
  reduction_over job (inl (may, is)) =
      subst IsOver (sym is)
      (record { some = may.wide.some; each = open_candidates_are books })
  reduction_over job (inr (never, is)) = single_over job is

  chunk_over : (size : ℕ) (job : Job) → 1 ≤ size → IsChunk books size earlier worker later job
      → IsOver job
  chunk_over size job least (inl (may, is)) =
      let some : 1 ≤ length (open_list books) = may.some in
      subst IsOver (sym is)
      (record {
        some = omega (arith, length-take size (open_list books));
        each = All-take (IsCandidate books.normal.names) size (open_list books)
            (open_candidates_are books);
      })
  chunk_over size job least (inr (never, is)) = single_over job is

  strategy_over : (strategy : Strategy) (job : Job) → IsStrategy strategy
      → IsByStrategy books strategy earlier worker later number job → IsOver job
  strategy_over Kinds.Single job chunks is = single_over job is
  strategy_over Kinds.Reduction job chunks is = reduction_over job is
  strategy_over (Kinds.Chunks size) job chunks is = chunk_over size job chunks is
  strategy_over Kinds.Mix job chunks (inl (turn, is)) = single_over job is
  strategy_over Kinds.Mix job chunks (inr (inl (turn, is))) = reduction_over job is
  strategy_over Kinds.Mix job chunks (inr (inr (turn, is))) = chunk_over 16 job (omega arith) is

  -- a job is over candidates where the worker's was
  pub job_over : (job : Job) → IsStrategy books.strategy → IsOver worker.job
      → IsJob books earlier worker later number job → IsOver job
  job_over job chunks had (inl (dead, is)) = subst IsOver (sym is) tt
  job_over job chunks had (inr (inl (goes, is))) = subst IsOver (sym is) had
  job_over job chunks had (inr (inr (alive, stops, inl (looks, is)))) = subst IsOver (sym is) tt
  job_over job chunks had (inr (inr (alive, stops, inr (never, is)))) =
      strategy_over books.strategy job chunks is

-- so is the job of a worker that got it
next_over : (books : Books) (worker next : Worker) (job : Job)
    → IsJobOver books.normal.names worker.job → IsJobOver books.normal.names job
    → HasJob books worker job next → IsJobOver books.normal.names next.job
next_over books worker next job had over (inl (goes, is)) =
    subst (λ (w : Worker). IsJobOver books.normal.names w.job) (sym is) had
next_over books worker next job had over (inr (stops, (None, new_list, is))) =
    subst (λ (w : Worker). IsJobOver books.normal.names w.job) (sym is) over
next_over books worker next job had over (inr (stops, (Some cands, new_list, is))) =
    subst (λ (w : Worker). IsJobOver books.normal.names w.job) (sym is) over

-- and those of all workers
pub given_over : (old new : Books) (jobs : List Job) → IsStrategy old.strategy
    → All (λ (worker : Worker). IsJobOver old.normal.names worker.job) old.workers
    → HasGiven old jobs new
    → All (λ (worker : Worker). IsJobOver old.normal.names worker.job) new.workers
given_over old new jobs chunks had given = λ k d within.
    let before : k < length old.workers = subst (λ n. k < n) given.same within in
    let worker : Worker = get_or old.workers k d in
    let job : Job = get_or jobs k Idle in
    let here : slice_get old.workers k ≡ Some worker = slice_get-get_or old.workers k d before in
    let gives : slice_get jobs k ≡ Some job =
    slice_get-get_or jobs k Idle (subst (λ n. k < n) (sym given.given.count) before) in
    next_over old worker (get_or new.workers k d) job (had k d before)
    (job_over old (take k jobs) worker (drop (k + 1) old.workers) (k + 1) job chunks
    (had k d before) (given.given.each k worker job here gives))
    (given.had k worker (get_or new.workers k d) job here gives
    (slice_get-get_or new.workers k d within))

-- the record is kept when jobs are given
pub kept_given : (books : Books) (left : List Bool) (own : Vec OwnTest Global)
    (room : Vec SpentTest Global) (jobs : List Job) (workers : List Worker)
    → IsKept books left own room → HasGiven books jobs (record books { workers = workers })
    → IsKept (record books { workers = workers }) left own room
kept_given books left own room jobs workers kept given =
    kept_workers books left own room workers kept given.same
    (given_over books (record books { workers = workers }) jobs kept.sound.strategy kept.sound.jobs
    given)
