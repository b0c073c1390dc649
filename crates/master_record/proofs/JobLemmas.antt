-- Jobs that were given, and plans for them.
use Rattle.std.proofs.Common.{◌≡◌, ◌≤◌, ◌<◌, ◌+◌, ℕ, List, [], ◌∷◌, ◌++◌, length}
use Rattle.std.proofs.Common.{take, drop, get_or, refl, sym, ap, subst, ◌∙◌, ⊎_elim, inl, inr}
use Rattle.std.proofs.Common.{arith}
use Rattle.std.proofs.Common.{Some}
use Rattle.std.specs.Prelude.{slice_get}
use Rattle.std.proofs.lemmas.Bool.{cases_lt}
use Rattle.std.proofs.lemmas.List.{take-append-le}
use Rattle.std.proofs.lemmas.Option.{slice_get_within, slice_get-get_or, get_or_from_slice_get}
use Rattle.std.proofs.Math.Seq.{take-append_seam}
use Rattle.worker_jobs.specs.declared.job.Job.{Job}
use Rattle.worker_jobs.specs.declared.job.Job.TheVariants.{Idle}
use Rattle.master_record.specs.declared.worker.Worker.{Worker}
use Rattle.master_record.specs.declared.worker.Plan.{Plan}
use Rattle.master_record.specs.declared.worker.Plan.TheVariants.{GoOn, Take}
use Rattle.master_record.specs.Rounds.{with_job, follow, HasRoomFor}
use Rattle.master_record.specs.Books.{Books}
use Rattle.master_record.specs.Jobs.{IsJob}
use Rattle.master_record.specs.Jobs.{IsPlan, HasJob, HasJobs, HavePlans, CanFollow, HaveFollowed}
use Rattle.master_record.specs.Jobs.{HasGiven}
use Rattle.master_record.proofs.ReadLemmas.{read_before, read_place, read_last}

-- each of the jobs so far is as it has to be
pub record AreJobs (books : Books) (jobs : List Job) : Type 0 where
  pub each : (at : ℕ) (worker : Worker) (job : Job) →
      slice_get books.workers at ≡ Some worker → slice_get jobs at ≡ Some job →
      IsJob books (take at jobs) worker (drop (at + 1) books.workers) (at + 1) job

pub no_jobs : (books : Books) → AreJobs books []
no_jobs books = record {
  each = λ at worker job here there.
      let none : List Job = [] in
      let within : at < length none = slice_get_within none at job there in
      absurd (omega (arith, within));
}

-- and so with one more
pub one_job_more : (books : Books) (jobs : List Job) (at : ℕ) (worker : Worker) (job : Job)
    → AreJobs books jobs → length jobs ≡ at → slice_get books.workers at ≡ Some worker
    → IsJob books jobs worker (drop (at + 1) books.workers) (at + 1) job
    → AreJobs books (jobs ++ job ∷ [])
one_job_more books jobs at worker job so_far count here is = record {
  each = λ k other given its there.
      ⊎_elim
      (λ less.
      subst (λ (xs : List Job). IsJob books xs other (drop (k + 1) books.workers) (k + 1) given)
      (sym (take-append-le k jobs (job ∷ []) (omega (arith, less))))
      (so_far.each k other given its (read_before jobs job k given less there)))
      (λ past. last k other given its there past)
      (cases_lt k (length jobs));
}
  where
    last : (k : ℕ) (other : Worker) (given : Job) → slice_get books.workers k ≡ Some other
        → slice_get (jobs ++ job ∷ []) k ≡ Some given → length jobs ≤ k
        → IsJob books (take k (jobs ++ job ∷ [])) other (drop (k + 1) books.workers) (k + 1) given
    last k other given its there past =
        let place : k ≡ length jobs = read_place jobs job k given past there in
        let same : job ≡ given = read_last jobs job k given past there in
        let who : worker ≡ other =
        sym (get_or_from_slice_get books.workers at worker worker here)
        ∙ ap (λ n. get_or books.workers n worker) (sym count ∙ sym place)
        ∙ get_or_from_slice_get books.workers k other worker its in
        subst (λ (n : ℕ). IsJob books (take n (jobs ++ job ∷ [])) other
        (drop (n + 1) books.workers) (n + 1) given) (sym place)
        (subst (λ (xs : List Job). IsJob books xs other (drop (length jobs + 1) books.workers)
        (length jobs + 1) given) (sym (take-append_seam jobs (job ∷ [])))
        (subst (λ (n : ℕ). IsJob books jobs other (drop (n + 1) books.workers) (n + 1) given)
        (sym count)
        (subst (λ (w : Worker). IsJob books jobs w (drop (at + 1) books.workers) (at + 1) given) who
        (subst (λ (j : Job). IsJob books jobs worker (drop (at + 1) books.workers) (at + 1) j) same
        is))))

-- each of the plans so far fits its worker and its job
pub record ArePlans (books : Books) (jobs : List Job) (plans : List Plan) : Type 0 where
  pub each : (at : ℕ) (worker : Worker) (job : Job) (plan : Plan) →
      slice_get books.workers at ≡ Some worker → slice_get jobs at ≡ Some job →
      slice_get plans at ≡ Some plan → IsPlan books worker job plan × HasRoomFor worker plan

pub no_plans : (books : Books) (jobs : List Job) → ArePlans books jobs []
no_plans books jobs = record {
  each = λ at worker job plan here there is.
      let none : List Plan = [] in
      let within : at < length none = slice_get_within none at plan is in
      absurd (omega (arith, within));
}

pub one_plan_more : (books : Books) (jobs : List Job) (plans : List Plan) (at : ℕ)
    (worker : Worker) (job : Job) (plan : Plan) → ArePlans books jobs plans → length plans ≡ at
    → slice_get books.workers at ≡ Some worker → slice_get jobs at ≡ Some job
    → IsPlan books worker job plan → HasRoomFor worker plan
    → ArePlans books jobs (plans ++ plan ∷ [])
one_plan_more books jobs plans at worker job plan so_far count here there is room = record {
  each = λ k other given planned its gives plans_it.
      ⊎_elim
      (λ less. so_far.each k other given planned its gives
      (read_before plans plan k planned less plans_it))
      (λ past.
      let place : at ≡ k = sym count ∙ sym (read_place plans plan k planned past plans_it) in
      let same : plan ≡ planned = read_last plans plan k planned past plans_it in
      let who : worker ≡ other =
      sym (get_or_from_slice_get books.workers at worker worker here)
      ∙ ap (λ n. get_or books.workers n worker) place
      ∙ get_or_from_slice_get books.workers k other worker its in
      let what : job ≡ given =
      sym (get_or_from_slice_get jobs at job job there) ∙ ap (λ n. get_or jobs n job) place
      ∙ get_or_from_slice_get jobs k given job gives in
      subst (λ (p : Plan). IsPlan books other given p × HasRoomFor other p) same
      (subst (λ (j : Job). IsPlan books other j plan × HasRoomFor other plan) what
      (subst (λ (w : Worker). IsPlan books w job plan × HasRoomFor w plan) who (is, room))))
      (cases_lt k (length plans));
}

-- what was planned can be followed
pub can_follow : (books : Books) (jobs : List Job) (plans : List Plan)
    → length jobs ≡ length books.workers → HavePlans books jobs plans
    → CanFollow books.workers plans
can_follow books jobs plans count planned = record {
  count = planned.count;
  each = λ at worker plan here is.
      let within : at < length books.workers = slice_get_within books.workers at worker here in
      let job : Job = get_or jobs at Idle in
      (planned.each at worker job plan here
      (slice_get-get_or jobs at Idle (subst (λ n. at < n) (sym count) within)) is).1;
}

-- a plan that was followed gave the job
has_job : (books : Books) (worker : Worker) (job : Job) (plan : Plan)
    → IsPlan books worker job plan → HasJob books worker job (follow worker plan)
has_job books worker job GoOn goes = inl (goes, refl)
has_job books worker job (Take taken list) is =
    inr (
      is.0,
      (
        list,
        is.2,
        ap (λ (j : Job). with_job worker j list) is.1,
      ),
    )

-- plans that were followed gave the jobs
pub given_by : (old : Books) (jobs : List Job) (plans : List Plan) (workers : List Worker)
    → HasJobs old jobs → HavePlans old jobs plans → HaveFollowed old.workers plans workers
    → HasGiven old jobs (record old { workers = workers })
given_by old jobs plans workers given planned followed = record {
  given = given;
  same = followed.same;
  had = λ at worker next job here there is.
      let within : at < length old.workers = slice_get_within old.workers at worker here in
      let plan : Plan = get_or plans at GoOn in
      let its : slice_get plans at ≡ Some plan =
      slice_get-get_or plans at GoOn (subst (λ n. at < n) (sym planned.count) within) in
      let now : follow worker plan ≡ next =
      sym (get_or_from_slice_get workers at (follow worker plan) next
      (followed.each at worker plan here its))
      ∙ get_or_from_slice_get workers at next next is in
      subst (HasJob old worker job) now
      (has_job old worker job plan (planned.each at worker job plan here there its).0);
  after = refl;
}

-- where the record is seen by its view, what was planned can be followed
pub may_follow : (books now : Books) (jobs given : List Job) (plans : List Plan) → books ≡ now
    → HasJobs now jobs → given ≡ jobs → HavePlans now given plans → CanFollow books.workers plans
may_follow books now jobs given plans view have same planned =
    can_follow books jobs plans (subst (λ (b : Books). HasJobs b jobs) (sym view) have).count
    (subst (λ (b : Books). HavePlans b jobs plans) (sym view)
    (subst (λ (xs : List Job). HavePlans now xs plans) same planned))

-- and the jobs are given
pub handed_out : (books now : Books) (jobs given : List Job) (plans : List Plan)
    (workers : List Worker) → books ≡ now → HasJobs now jobs → given ≡ jobs
    → HavePlans now given plans → HaveFollowed books.workers plans workers
    → HasGiven books jobs (record books { workers = workers })
handed_out books now jobs given plans workers view have same planned followed =
    given_by books jobs plans workers (subst (λ (b : Books). HasJobs b jobs) (sym view) have)
    (subst (λ (b : Books). HavePlans b jobs plans) (sym view)
    (subst (λ (xs : List Job). HavePlans now xs plans) same planned))
    followed
