-- What job the only worker gets while the run goes on.
use Rattle.std.proofs.Common.{◌≡◌, ◌≤◌, ◌<◌, ◌+◌, ◌-◌, not, ℕ, zero, suc, Bool, true}
use Rattle.std.proofs.Common.{false, List, [], ◌∷◌, length, take, drop, get_or, refl, sym}
use Rattle.std.proofs.Common.{ap, subst, ◌∙◌, ⊎_elim, inl, inr, arith, true≢false}
use Rattle.std.proofs.Common.{Option, Some, None}
use Rattle.std.specs.Prelude.{All, slice_get, IfSome, IsSome}
use Rattle.std.specs.List.{range_with_len}
use Rattle.std.proofs.lemmas.Bool.{cases_lt}
use Rattle.std.proofs.lemmas.List.Elements.{All-filter, filter_passes, All-head, All-nil, All-cons}
use Rattle.std.proofs.lemmas.List.Elements.{All-take}
use Rattle.std.proofs.lemmas.List.FromFn.{get_or-range_with_len, length-range_with_len}
use Rattle.ground_program.specs.declared.pair.Pair.{Pair}
use Rattle.ground_program.specs.declared.program.Named.{Named}
use Rattle.ground_program.specs.Bounds.{IsCandidate}
use Rattle.normal_program.specs.declared.spent.SpentTest.{SpentTest}
use Rattle.worker_jobs.specs.declared.job.Job.{Job}
use Rattle.worker_jobs.specs.declared.job.Job.TheVariants.{Idle, Coherence, Single, Reduce, Chunk}
use Rattle.worker_jobs.specs.declared.job.Strategy.{Strategy}
use Rattle.worker_jobs.specs.declared.job.Strategy.TheVariants as Kinds
use Rattle.worker_jobs.specs.Job.{IsJobOver}
use Rattle.worker_strategies.specs.Working.{Working, HasSelectorFor}
use Rattle.master_record.specs.declared.worker.Worker.{Worker}
use Rattle.master_record.specs.declared.verdict.Verdict.TheVariants.{Running}
use Rattle.master_record.specs.Rounds.{newcomer}
use Rattle.master_record.specs.Course.{IsOpenIn, is_open}
use Rattle.master_record.specs.Books.{Books, IsOpenCandidate, open_list, IsStrategy}
use Rattle.master_record.specs.Jobs.{CanGoOn, IsTaken, IsUntested, IsSingle}
use Rattle.master_record.specs.Jobs.{IsReduction, IsChunk, IsByStrategy}
use Rattle.master_record.specs.Jobs.{LooksForOne, IsNewJob, IsJob, HasJob, HasGiven}
use Rattle.master_record.specs.Verdicts.{IsVerdict}
use Rattle.master_record.specs.Sound.{IsSound}
use Rattle.master_record.proofs.CourseLemmas.{and_left, and_right, not_true, not_so}
use Rattle.master_record.proofs.LeftLemmas.{tested_or_not}
use Rattle.query_run.specs.Agreed.{only, IsUnspent, IsInUse, IsPausedAt, IsInStep}

-- a list of one item
pub single_list : {X : Type 0} (xs : List X) (d : X) → length xs ≡ 1 → xs ≡ get_or xs 0 d ∷ []
single_list [] d one = absurd (omega (arith, one))
single_list (x ∷ []) d one = refl
single_list (x ∷ y ∷ xs) d one = absurd (omega (arith, one))

-- an unsettled candidate by its test
pub open_by : (names : List Named) (pair : Pair) (cand : ℕ) → IsCandidate names cand
    → is_open pair cand ≡ true → IsOpenIn names pair cand
open_by names pair cand candidate is =
    let low : Bool = get_or pair.lower (cand - 1) false in
    let up : Bool = get_or pair.upper (cand - 1) false in
    record {
      candidate = candidate;
      unproved = λ has. true≢false (sym has ∙ not_true low (and_left (not low) up is));
      possible = and_right (not low) up is;
    }

-- the numbers of the candidates
pub all_candidates : (names : List Named) → All (IsCandidate names) (range_with_len 1 (length names))
all_candidates names = λ k d within.
    let less : k < length names = omega (arith, within, length-range_with_len 1 (length names)) in
    let is : get_or (range_with_len 1 (length names)) k d ≡ 1 + k =
    get_or-range_with_len 1 (length names) k d less in
    record { first = omega (arith, is); last = omega (arith, is) }

-- the open list has open candidates
pub open_listed : (books : Books) → All (IsOpenCandidate books) (open_list books)
open_listed books = λ k d within.
    let cand : ℕ = get_or (open_list books) k d in
    let range : List ℕ = range_with_len 1 (length books.normal.names) in
    open_by books.normal.names books.pair cand
    (All-filter (is_open books.pair) (IsCandidate books.normal.names) range
    (all_candidates books.normal.names) k d within)
    (filter_passes (is_open books.pair) range k d within)

-- several candidates that may be tested together
pub record AreWide (books : Books) (cands : List ℕ) : Type 0 where
  pub some : 1 ≤ length cands
  pub unsettled : All (IsOpenCandidate books) cands
  pub narrow : (only books).wide ≡ false

-- the disjunction of a list is in use, or the worker was given fewer lists than there are selectors
pub data HasRoom (books : Books) (cands : List ℕ) : Type 0 where
  again : (only books).paused ≡ true → (only books).job ≡ Reduce cands → HasRoom books cands
  last : (only books).last ≡ Some cands → HasRoom books cands
  fewer : (only books).reduces < length books.normal.names + 1 → HasRoom books cands

-- what a job asks isn't known
abbrev pub IsAsked : Books → Job → Type 0
IsAsked books Idle = ⊥
IsAsked books Coherence = books.answers ≡ 0
IsAsked books (Single cand) = IsUntested books cand
IsAsked books (Reduce cands) = AreWide books cands × HasRoom books cands
IsAsked books (Chunk cands) = AreWide books cands

-- a job that brings a run on
abbrev pub IsOfUse : Books → Job → Type 0
IsOfUse books Idle = ⊥
IsOfUse books Coherence = books.answers ≡ 0
IsOfUse books (Single cand) = IsUntested books cand
IsOfUse books (Reduce cands) = All (IsOpenCandidate books) cands
IsOfUse books (Chunk cands) = All (IsOpenCandidate books) cands

-- it is one for the record with other workers
pub of_use : (old mid : Books) (job : Job) → mid ≡ record old { workers = mid.workers }
    → IsAsked old job → IsOfUse mid job
of_use old mid job others asked =
    subst (λ (b : Books). IsOfUse b job) (sym others) (by_job job asked)
  where
    by_job : (other : Job) → IsAsked old other
        → IsOfUse (record old { workers = mid.workers }) other
    by_job Idle now = absurd now
    by_job Coherence now = now
    by_job (Single cand) now = record { unsettled = now.unsettled; unspent = now.unspent }
    by_job (Reduce cands) now = now.0.unsettled
    by_job (Chunk cands) now = now.unsettled

-- nothing is taken where there is no other worker
not_taken : (books : Books) (job : Job) → ¬ IsTaken books [] [] job
not_taken books job (inl (k, within, is)) = omega (arith, within)
not_taken books job (inr (k, worker, within, is, goes)) = omega (arith, within)

module _ (books : Books) (sound : IsSound books) (running : IsVerdict books Running)
    (one : length books.workers ≡ 1) where
  pub workers_are : books.workers ≡ only books ∷ []
  workers_are = single_list books.workers newcomer one

  pub alive : (only books).dead ≡ false
  alive =
      not_so (only books).dead
      (λ dead. running.3
      (subst (All (λ (worker : Worker). worker.dead ≡ true)) (sym workers_are)
      (All-cons (λ (worker : Worker). worker.dead ≡ true) (only books) [] dead
      (All-nil (λ (worker : Worker). worker.dead ≡ true)))))

  -- where nobody looks for an answer set one is known
  answered : ¬ LooksForOne books [] [] → 1 ≤ books.answers
  answered none =
      ⊎_elim
      (λ zero_answers.
      let unanswered : books.answers ≡ 0 = omega (arith, zero_answers) in
      absurd (by_coherence books.coherence refl unanswered))
      (λ some. some)
      (cases_lt books.answers 1)
    where
      by_coherence : (test : Option SpentTest) → books.coherence ≡ test → books.answers ≡ 0 → ⊥
      by_coherence None is unanswered =
          none (record { unanswered = unanswered; unspent = is; free = not_taken books Coherence })
      by_coherence (Some test) is unanswered =
          running.2 (inl (unanswered, subst IsSome (sym is) refl))

  -- the job of one candidate
  asked_single : (job : Job) → ¬ LooksForOne books [] [] → IsSingle books [] [] job
      → IsAsked books job
  asked_single job none (inl (cand, is, free)) = subst (IsAsked books) (sym is) free.untested
  asked_single job none (inr (is, taken)) =
      absurd (running.2 (inr (
        answered none,
        λ cand unsettled.
            ⊎_elim (λ tested. tested)
            (λ untested. absurd (not_taken books (Single cand)
            (taken cand (record { unsettled = unsettled; unspent = untested }))))
            (tested_or_not books.own cand),
      )))

  asked_reduction : (job : Job) → ¬ LooksForOne books [] []
      → IsReduction books [] (only books) [] job → IsAsked books job
  asked_reduction job none (inl (may, is)) =
      subst (IsAsked books) (sym is) (
        record {
          some = may.wide.some;
          unsettled = open_listed books;
          narrow = may.wide.narrow;
        },
        ⊎_elim (λ had. last had) (λ less. fewer less) may.selector,
      )
  asked_reduction job none (inr (may_not, single)) = asked_single job none single

  -- the first ones of the open list
  some_first : (size : ℕ) → 1 ≤ size → 1 ≤ length (open_list books)
      → (only books).wide ≡ false → AreWide books (take size (open_list books))
  some_first size some there narrow =
      record {
        some = some_taken (open_list books) size some there;
        unsettled = λ k d within. taken_open k d within;
        narrow = narrow;
      }
    where
      some_taken : (xs : List ℕ) (n : ℕ) → 1 ≤ n → 1 ≤ length xs → 1 ≤ length (take n xs)
      some_taken [] n first long = absurd (omega (arith, long))
      some_taken (x ∷ xs) zero first long = absurd (omega (arith, first))
      some_taken (x ∷ xs) (suc n) first long = omega arith

      taken_open : (k d : ℕ) → k < length (take size (open_list books))
          → IsOpenCandidate books (get_or (take size (open_list books)) k d)
      taken_open k d within =
          All-take (IsOpenCandidate books) size (open_list books) (open_listed books) k d within

  asked_chunk : (size : ℕ) (job : Job) → 1 ≤ size → ¬ LooksForOne books [] []
      → IsChunk books size [] (only books) [] job → IsAsked books job
  asked_chunk size job some none (inl (may, is)) =
      subst (IsAsked books) (sym is) (some_first size some may.some may.narrow)
  asked_chunk size job some none (inr (may_not, single)) = asked_single job none single

  asked_by : (strategy : Strategy) (job : Job) → IsStrategy strategy → ¬ LooksForOne books [] []
      → IsByStrategy books strategy [] (only books) [] 1 job → IsAsked books job
  asked_by Kinds.Single job sized none by = asked_single job none by
  asked_by Kinds.Reduction job sized none by = asked_reduction job none by
  asked_by (Kinds.Chunks size) job sized none by = asked_chunk size job sized none by
  asked_by Kinds.Mix job sized none (inl (is, by)) = asked_single job none by
  asked_by Kinds.Mix job sized none (inr (inl (is, by))) = asked_reduction job none by
  asked_by Kinds.Mix job sized none (inr (inr (is, by))) =
      asked_chunk 16 job (omega arith) none by

  -- a new job
  asked_new : (job : Job) → IsNewJob books [] (only books) [] 1 job → IsAsked books job
  asked_new job (inl (looks, is)) = subst (IsAsked books) (sym is) looks.unanswered
  asked_new job (inr (none, by)) = asked_by books.strategy job sound.strategy none by

  -- a job that goes on
  asked_again : (worker : Working) → IsInStep books worker → (job : Job)
      → (only books).paused ≡ true → IsJobOver books.normal.names job
      → (only books).job ≡ job → IsUnspent books worker job → CanGoOn books job
      → IsAsked books job
  asked_again worker step Idle paused over is rest can = absurd can
  asked_again worker step Coherence paused over is rest can = can
  asked_again worker step (Single cand) paused over is rest can =
      record { unsettled = can; unspent = rest }
  asked_again worker step (Reduce cands) paused over is rest can =
      (record { some = over.some; unsettled = can; narrow = rest.0 }, again paused is)
  asked_again worker step (Chunk cands) paused over is rest can =
      record { some = over.some; unsettled = can; narrow = rest }

  -- each job
  pub asked_job : (worker : Working) → IsInStep books worker → (job : Job)
      → IsJob books [] (only books) [] 1 job → IsAsked books job
  asked_job worker step job (inl (dead, is)) = absurd (true≢false (sym dead ∙ alive))
  asked_job worker step job (inr (inl (goes, is))) =
      let held : IsPausedAt books worker = step.paused goes.paused in
      subst (IsAsked books) (sym is)
      (asked_again worker step (only books).job goes.paused
      (All-head (λ (w : Worker). IsJobOver books.normal.names w.job) (only books) []
      (subst (All (λ (w : Worker). IsJobOver books.normal.names w.job)) workers_are sound.jobs))
      refl held.unspent goes.can)
  asked_job worker step job (inr (inr (living, not_goes, new))) = asked_new job new

  -- what is asked names candidates
  pub asked_over : (job : Job) → IsAsked books job → IsJobOver books.normal.names job
  asked_over Idle asked = absurd asked
  asked_over Coherence asked = tt
  asked_over (Single cand) asked = asked.unsettled.candidate
  asked_over (Reduce cands) asked =
      record { some = asked.0.some; each = λ k d within. (asked.0.unsettled k d within).candidate }
  asked_over (Chunk cands) asked =
      record { some = asked.some; each = λ k d within. (asked.unsettled k d within).candidate }

  -- and there is a selector for it
  pub asked_selector : (worker : Working) → IsInStep books worker → (job : Job)
      → IsAsked books job → HasSelectorFor worker job
  asked_selector worker step Idle asked = absurd asked
  asked_selector worker step Coherence asked = tt
  asked_selector worker step (Single cand) asked = tt
  asked_selector worker step (Reduce cands) (wide, again paused is) =
      let held : IsPausedAt books worker = step.paused paused in
      inl ((subst (IsUnspent books worker) is held.unspent).1)
  asked_selector worker step (Reduce cands) (wide, last is) =
      inl (subst (λ (o : Option (List ℕ)). IfSome o (IsInUse worker)) is step.last)
  asked_selector worker step (Reduce cands) (wide, fewer less) =
      let names : length worker.normal.names ≡ length books.normal.names =
      ap (λ n. length n.names) step.normal in
      inr (omega (arith, less, step.lists, names))
  asked_selector worker step (Chunk cands) asked = tt

-- the job of the only worker
module _ (old mid : Books) (jobs : List Job) (job : Job) (given : HasGiven old jobs mid)
    (is : jobs ≡ job ∷ []) (workers : old.workers ≡ only old ∷ []) where
  pub job_is : IsJob old [] (only old) [] 1 job
  job_is =
      subst (λ (ws : List Worker). IsJob old [] (only old) (drop 1 ws) 1 job) workers
      (subst (λ (js : List Job). IsJob old (take 0 js) (only old) (drop 1 old.workers) 1 job) is
      (given.given.each 0 (only old) job
      (subst (λ (ws : List Worker). slice_get ws 0 ≡ Some (only old)) (sym workers) refl)
      (subst (λ (js : List Job). slice_get js 0 ≡ Some job) (sym is) refl)))

  pub mid_workers : mid.workers ≡ only mid ∷ []
  mid_workers =
      single_list mid.workers newcomer
      (given.same ∙ ap (λ (ws : List Worker). length ws) workers)

  pub had_is : HasJob old (only old) job (only mid)
  had_is =
      given.had 0 (only old) (only mid) job
      (subst (λ (ws : List Worker). slice_get ws 0 ≡ Some (only old)) (sym workers) refl)
      (subst (λ (js : List Job). slice_get js 0 ≡ Some job) (sym is) refl)
      (subst (λ (ws : List Worker). slice_get ws 0 ≡ Some (only mid)) (sym mid_workers) refl)
