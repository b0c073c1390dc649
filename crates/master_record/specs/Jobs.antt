-- Which jobs the workers get.
use Rattle.std.specs.Prelude.{◌≡◌, ◌≢◌, ◌≤◌, ◌<◌, ◌+◌, ◌%◌, ◌⊎◌, ℕ, Bool, true, false, List}
use Rattle.std.specs.Prelude.{length, take, drop, Some, None, slice_get, All, Any, Contains}
use Rattle.std.specs.Prelude.{Option, None, ◌↔◌}
use Rattle.worker_jobs.specs.declared.job.Job.{Job}
use Rattle.worker_jobs.specs.declared.job.Job.TheVariants.{Idle, Coherence, Single, Reduce, Chunk}
use Rattle.worker_jobs.specs.declared.job.Strategy.{Strategy}
use Rattle.worker_jobs.specs.declared.job.Strategy.TheVariants as Kinds
use Rattle.master_record.specs.declared.worker.Worker.{Worker}
use Rattle.master_record.specs.Rounds.{gone_on, with_job, follow, HasRoomFor}
use Rattle.master_record.specs.declared.worker.Plan.{Plan}
use Rattle.master_record.specs.declared.worker.Plan.TheVariants.{GoOn, Take}
use Rattle.master_record.specs.Books.{Books, IsOpenCandidate, open_list}

-- a job can go on: its candidates are all open, or it asks for an answer set and none is known
abbrev pub CanGoOn : Books → Job → Type 0
CanGoOn books Idle = ⊥
CanGoOn books Coherence = books.answers ≡ 0
CanGoOn books (Single cand) = IsOpenCandidate books cand
CanGoOn books (Reduce cands) = All (IsOpenCandidate books) cands
CanGoOn books (Chunk cands) = All (IsOpenCandidate books) cands

-- a worker's job goes on
pub record GoesOn (books : Books) (worker : Worker) : Type 0 where
  pub alive : worker.dead ≡ false
  pub paused : worker.paused ≡ true
  pub can : CanGoOn books worker.job

-- the job of coherence, or that of one candidate
abbrev pub alone : Option ℕ → Job
alone None = Coherence
alone (Some cand) = Single cand

-- a job is taken: one of the workers before has it, or one behind goes on with it
abbrev pub IsTaken : Books → List Job → List Worker → Job → Type 0
IsTaken books earlier later job =
    Contains earlier job ⊎ Any (λ worker. GoesOn books worker × (worker.job ≡ job)) later

-- a candidate is open and its own test isn't spent
pub record IsUntested (books : Books) (cand : ℕ) : Type 0 where
  pub unsettled : IsOpenCandidate books cand
  pub unspent : ¬ Any (λ one. one.cand ≡ cand) books.own

-- the least candidate that is free for a test of its own
pub record IsFree (books : Books) (earlier : List Job) (later : List Worker) (cand : ℕ) : Type 0
  where
    pub untested : IsUntested books cand
    pub free : ¬ IsTaken books earlier later (Single cand)
    pub least : (other : ℕ) → other < cand → IsUntested books other
        → IsTaken books earlier later (Single other)

-- the job of one candidate, or none where no candidate is free
abbrev pub IsSingle : Books → List Job → List Worker → Job → Type 0
IsSingle books earlier later job =
    ((cand : ℕ) × (job ≡ Single cand) × IsFree books earlier later cand)
    ⊎ ((job ≡ Idle)
    × ((cand : ℕ) → IsUntested books cand → IsTaken books earlier later (Single cand)))

-- a worker may get a job of several candidates
pub record MayBeWide (books : Books) (worker : Worker) : Type 0 where
  pub narrow : worker.wide ≡ false
  pub some : 1 ≤ length (open_list books)

-- it may get all open ones: it had this list last, or there is a selector for it. Lists only get
-- shorter, so it had the list before just where it had it last
pub record MayReduce (books : Books) (worker : Worker) : Type 0 where
  pub wide : MayBeWide books worker
  pub selector : (worker.last ≡ Some (open_list books))
      ⊎ (worker.reduces < length books.normal.names + 1)

-- the job of all open candidates, otherwise as with single ones
abbrev pub IsReduction : Books → List Job → Worker → List Worker → Job → Type 0
IsReduction books earlier worker later job =
    (MayReduce books worker × (job ≡ Reduce (open_list books)))
    ⊎ ((¬ MayReduce books worker) × IsSingle books earlier later job)

-- the job of the first open candidates, otherwise as with single ones
abbrev pub IsChunk : Books → ℕ → List Job → Worker → List Worker → Job → Type 0
IsChunk books size earlier worker later job =
    (MayBeWide books worker × (job ≡ Chunk (take size (open_list books))))
    ⊎ ((¬ MayBeWide books worker) × IsSingle books earlier later job)

-- the job by a strategy, for the worker with a number
abbrev pub IsByStrategy :
    Books → Strategy → List Job → Worker → List Worker → ℕ → Job → Type 0
IsByStrategy books Kinds.Single earlier worker later number job =
    IsSingle books earlier later job
IsByStrategy books Kinds.Reduction earlier worker later number job =
    IsReduction books earlier worker later job
IsByStrategy books (Kinds.Chunks size) earlier worker later number job =
    IsChunk books size earlier worker later job
IsByStrategy books Kinds.Mix earlier worker later number job =
    ((number % 3 ≡ 1) × IsSingle books earlier later job)
    ⊎ (((number % 3 ≡ 2) × IsReduction books earlier worker later job)
    ⊎ ((number % 3 ≡ 0) × IsChunk books 16 earlier worker later job))

-- an answer set is looked for by this worker
pub record LooksForOne (books : Books) (earlier : List Job) (later : List Worker) : Type 0 where
  pub unanswered : books.answers ≡ 0
  pub unspent : books.coherence ≡ None
  pub free : ¬ IsTaken books earlier later Coherence

-- the job of a worker whose job doesn't go on
abbrev pub IsNewJob : Books → List Job → Worker → List Worker → ℕ → Job → Type 0
IsNewJob books earlier worker later number job =
    (LooksForOne books earlier later × (job ≡ Coherence))
    ⊎ ((¬ LooksForOne books earlier later)
    × IsByStrategy books books.strategy earlier worker later number job)

-- the job of the worker with a number, by the jobs of the workers before it and the workers behind
abbrev pub IsJob : Books → List Job → Worker → List Worker → ℕ → Job → Type 0
IsJob books earlier worker later number job =
    ((worker.dead ≡ true) × (job ≡ Idle))
    ⊎ ((GoesOn books worker × (job ≡ worker.job))
    ⊎ ((worker.dead ≡ false) × (¬ GoesOn books worker)
    × IsNewJob books earlier worker later number job))

-- the list of a job, where it isn't the one that the worker had last
abbrev pub IsNewList : Option (List ℕ) → Job → Option (List ℕ) → Type 0
IsNewList last (Reduce cands) list =
    ((last ≡ Some cands) × (list ≡ None)) ⊎ ((last ≢ Some cands) × (list ≡ Some cands))
IsNewList last _ list = list ≡ None

-- a worker with the job that it goes on with, or with another one
abbrev pub HasJob : Books → Worker → Job → Worker → Type 0
HasJob books old job new =
    (GoesOn books old × (new ≡ gone_on old))
    ⊎ ((¬ GoesOn books old)
    × ((list : Option (List ℕ)) × IsNewList old.last job list × (new ≡ with_job old job list)))

-- a plan to take this job
abbrev pub IsTaking : Option (List ℕ) → Job → Plan → Type 0
IsTaking last job GoOn = ⊥
IsTaking last job (Take taken list) = (taken ≡ job) × IsNewList last job list

-- a plan for a worker with a job
abbrev pub IsPlan : Books → Worker → Job → Plan → Type 0
IsPlan books worker job GoOn = GoesOn books worker
IsPlan books worker job (Take taken list) =
    (¬ GoesOn books worker) × (taken ≡ job) × IsNewList worker.last job list

-- the job of each worker
pub record HasJobs (books : Books) (jobs : List Job) : Type 0 where
  pub count : length jobs ≡ length books.workers
  pub each : (at : ℕ) (worker : Worker) (job : Job) →
      slice_get books.workers at ≡ Some worker → slice_get jobs at ≡ Some job →
      IsJob books (take at jobs) worker (drop (at + 1) books.workers) (at + 1) job

-- a plan for each worker
pub record HavePlans (books : Books) (jobs : List Job) (plans : List Plan) : Type 0 where
  pub count : length plans ≡ length books.workers
  pub each : (at : ℕ) (worker : Worker) (job : Job) (plan : Plan) →
      slice_get books.workers at ≡ Some worker → slice_get jobs at ≡ Some job →
      slice_get plans at ≡ Some plan → IsPlan books worker job plan × HasRoomFor worker plan

-- there is a plan for each worker, and room for it
pub record CanFollow (workers : List Worker) (plans : List Plan) : Type 0 where
  pub count : length plans ≡ length workers
  pub each : (at : ℕ) (worker : Worker) (plan : Plan) →
      slice_get workers at ≡ Some worker → slice_get plans at ≡ Some plan → HasRoomFor worker plan

-- each worker does as planned
pub record HaveFollowed (old : List Worker) (plans : List Plan) (new : List Worker) : Type 0 where
  pub same : length new ≡ length old
  pub each : (at : ℕ) (worker : Worker) (plan : Plan) →
      slice_get old at ≡ Some worker → slice_get plans at ≡ Some plan →
      slice_get new at ≡ Some (follow worker plan)

-- each worker gets its job
pub record HasGiven (old : Books) (jobs : List Job) (new : Books) : Type 0 where
  pub given : HasJobs old jobs
  pub same : length new.workers ≡ length old.workers
  pub had : (at : ℕ) (worker next : Worker) (job : Job) →
      slice_get old.workers at ≡ Some worker → slice_get jobs at ≡ Some job →
      slice_get new.workers at ≡ Some next → HasJob old worker job next
  pub after : new ≡ record old { workers = new.workers }
