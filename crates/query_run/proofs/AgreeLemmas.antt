-- The record and its worker agree after a round.
use Rattle.std.proofs.Common.{◌≡◌, ◌≢◌, ◌≤◌, ◌+◌, ◌⊎◌, ℕ}
use Rattle.std.proofs.Common.{true, false, List, [], ◌∷◌, ◌++◌, length, get_or, set, refl}
use Rattle.std.proofs.Common.{sym, ap, subst, ◌∙◌, inl, inr, arith, true≢false}
use Rattle.std.proofs.Common.{Option, Some, None, length-append}
use Rattle.std.specs.Prelude.{Contains, IfSome}
use Rattle.std.proofs.lemmas.List.Elements.{Contains-append_left}
use Rattle.ground_program.specs.declared.program.Mode.{Mode}
use Rattle.clause_store.specs.declared.literal.Lit.{Lit}
use Rattle.normal_program.specs.declared.normal.Normal.{Normal}
use Rattle.coherence_test.specs.Selectors.{AreUsed}
use Rattle.worker_jobs.specs.declared.job.Job.{Job}
use Rattle.worker_jobs.specs.declared.job.Job.TheVariants.{Idle, Coherence, Single, Reduce, Chunk}
use Rattle.worker_jobs.specs.declared.gain.Gain.{Gain}
use Rattle.worker_jobs.specs.declared.gain.RoundEnd.{RoundEnd}
use Rattle.worker_jobs.specs.declared.gain.RoundEnd.TheVariants.{Done, Settled, Paused, Spent}
use Rattle.worker_jobs.specs.declared.gain.RoundEnd.TheVariants.{SpentWide, NoMemory}
use Rattle.worker_strategies.specs.Disjunction.{disjunction_of, disjunction_for}
use Rattle.worker_strategies.specs.Working.{Working, HasRounded}
use Rattle.worker_strategies.proofs.TestLemmas.{used_there}
use Rattle.report.specs.declared.lines.Line.{Line}
use Rattle.master_record.specs.declared.worker.Worker.{Worker}
use Rattle.master_record.specs.Rounds.{newcomer, marked, mark_of, with_job}
use Rattle.master_record.specs.Books.{Books, open_own}
use Rattle.master_record.specs.Jobs.{HasJob, IsNewList, IsJob}
use Rattle.master_record.specs.Merging.{HasMerged, spent_own}
use Rattle.query_run.specs.Agreed.{only, IsInUse, IsUnspent}
use Rattle.query_run.specs.Agreed.{IsPausedAt, IsInStep}

-- ---- the job

-- the worker's job is the one that was given
pub job_had : (old mid : Books) (job : Job) → IsJob old [] (only old) [] 1 job
    → HasJob old (only old) job (only mid) → (only old).dead ≡ false → (only mid).job ≡ job
job_had old mid job (inl (dead, is)) had alive = absurd (true≢false (sym dead ∙ alive))
job_had old mid job (inr (inl (goes, is))) (inl (again, same)) alive =
    ap (λ (w : Worker). w.job) same ∙ sym is
job_had old mid job (inr (inl (goes, is))) (inr (not_again, other)) alive =
    absurd (not_again goes)
job_had old mid job (inr (inr (living, not_goes, new))) (inl (again, same)) alive =
    absurd (not_goes again)
job_had old mid job (inr (inr (living, not_goes, new))) (inr (not_again, (list, is_new, same))) alive =
    ap (λ (w : Worker). w.job) same ∙ taken list
  where
    taken : (list : Option (List ℕ)) → (with_job (only old) job list).job ≡ job
    taken None = refl
    taken (Some cands) = refl

-- its round is due
pub owed_had : (old mid : Books) (job : Job) → HasJob old (only old) job (only mid)
    → (only mid).owed ≡ true
owed_had old mid job (inl (again, same)) = ap (λ (w : Worker). w.owed) same
owed_had old mid job (inr (not_again, (list, is_new, same))) =
    ap (λ (w : Worker). w.owed) same ∙ taken list
  where
    taken : (list : Option (List ℕ)) → (with_job (only old) job list).owed ≡ true
    taken None = refl
    taken (Some cands) = refl

-- a new job keeps what the worker ever answered
pub wide_had : (old mid : Books) (job : Job) → HasJob old (only old) job (only mid)
    → (only mid).wide ≡ (only old).wide
wide_had old mid job (inl (again, same)) = ap (λ (w : Worker). w.wide) same
wide_had old mid job (inr (not_again, (list, is_new, same))) =
    ap (λ (w : Worker). w.wide) same ∙ taken list
  where
    taken : (list : Option (List ℕ)) → (with_job (only old) job list).wide ≡ (only old).wide
    taken None = refl
    taken (Some cands) = refl

pub dead_had : (old mid : Books) (job : Job) → HasJob old (only old) job (only mid)
    → (only mid).dead ≡ (only old).dead
dead_had old mid job (inl (again, same)) = ap (λ (w : Worker). w.dead) same
dead_had old mid job (inr (not_again, (list, is_new, same))) =
    ap (λ (w : Worker). w.dead) same ∙ taken list
  where
    taken : (list : Option (List ℕ)) → (with_job (only old) job list).dead ≡ (only old).dead
    taken None = refl
    taken (Some cands) = refl

-- ---- disjunctions

-- what a list in used and a new one make of the counts
pub record AreListed (worker : Working) (mid : Books) (job : Job) : Type 0 where
  pub lists : length worker.disjunctions ≤ (only mid).reduces
  pub next : (cands : List ℕ) → job ≡ Reduce cands → ¬ IsInUse worker cands
      → length worker.disjunctions + 1 ≤ (only mid).reduces
  pub last : IfSome (only mid).last (λ cands. IsInUse worker cands ⊎ (job ≡ Reduce cands))

-- so it is with each job
pub listed : (old mid : Books) (worker : Working) (job : Job) → IsInStep old worker
    → IsJob old [] (only old) [] 1 job → (only old).dead ≡ false
    → HasJob old (only old) job (only mid) → AreListed worker mid job
listed old mid worker job step is_job alive (inl (again, same)) =
    let held : IsPausedAt old worker = step.paused again.paused in
    record {
      lists = subst (λ (w : Worker). length worker.disjunctions ≤ w.reduces) (sym same) step.lists;
      next = λ cands is none.
          let had : (only old).job ≡ Reduce cands =
          ap (λ (w : Worker). w.job) (sym same)
          ∙ job_had old mid job is_job (inl (again, same)) alive ∙ is in
          absurd (none (subst (IsUnspent old worker) had held.unspent).1);
      last = subst (λ (w : Worker).
          IfSome w.last (λ cands. IsInUse worker cands ⊎ (job ≡ Reduce cands))) (sym same)
          (weaker (only old).last step.last);
    }
  where
    weaker : (o : Option (List ℕ)) → IfSome o (IsInUse worker)
        → IfSome o (λ cands. IsInUse worker cands ⊎ (job ≡ Reduce cands))
    weaker None used = tt
    weaker (Some cands) used = inl used
listed old mid worker job step is_job alive (inr (not_again, (list, is_new, same))) =
    let all : AreListed worker (record old { workers = with_job (only old) job list ∷ [] }) job =
    by_job job list is_new in
    record {
      lists = subst (λ (w : Worker). length worker.disjunctions ≤ w.reduces) (sym same) all.lists;
      next = λ cands is none.
          subst (λ (w : Worker). length worker.disjunctions + 1 ≤ w.reduces) (sym same)
          (all.next cands is none);
      last = subst (λ (w : Worker).
          IfSome w.last (λ cands. IsInUse worker cands ⊎ (job ≡ Reduce cands))) (sym same) all.last;
    }
  where
    weaker : (other : Job) (o : Option (List ℕ)) → IfSome o (IsInUse worker)
        → IfSome o (λ cands. IsInUse worker cands ⊎ (other ≡ Reduce cands))
    weaker other None used = tt
    weaker other (Some cands) used = inl used

    then : Job → Option (List ℕ) → Books
    then other list = record old { workers = with_job (only old) other list ∷ [] }

    plain : (other : Job) → ((cands : List ℕ) → other ≢ Reduce cands)
        → AreListed worker (then other None) other
    plain other none = record {
      lists = step.lists;
      next = λ cands is not_used. absurd (none cands is);
      last = weaker other (only old).last step.last;
    }

    same_list : (one two : List ℕ) → Reduce one ≡ Reduce two → one ≡ two
    same_list one two e = cc

    same_some : (one two : List ℕ) → Some one ≡ Some two → one ≡ two
    same_some one two e = cc

    by_job : (other : Job) (list : Option (List ℕ)) → IsNewList (only old).last other list
        → AreListed worker (then other list) other
    by_job Idle None is = plain Idle (λ cands e. cc)
    by_job Idle (Some cands) is = cc
    by_job Coherence None is = plain Coherence (λ cands e. cc)
    by_job Coherence (Some cands) is = cc
    by_job (Single cand) None is = plain (Single cand) (λ cands e. cc)
    by_job (Single cand) (Some cands) is = cc
    by_job (Chunk some) None is = plain (Chunk some) (λ cands e. cc)
    by_job (Chunk some) (Some cands) is = cc
    by_job (Reduce some) None (inl (had, none)) = record {
      lists = step.lists;
      next = λ cands is not_used.
          absurd (not_used (subst (λ (o : Option (List ℕ)). IfSome o (IsInUse worker))
          (had ∙ ap Some (same_list some cands is)) step.last));
      last = weaker (Reduce some) (only old).last step.last;
    }
    by_job (Reduce some) None (inr (differs, is)) = cc
    by_job (Reduce some) (Some cands) (inl (had, none)) = cc
    by_job (Reduce some) (Some cands) (inr (differs, is)) = record {
      lists = omega (arith, step.lists);
      next = λ others same_job not_used. omega (arith, step.lists);
      last = inr (ap Reduce (sym (same_some cands some is)));
    }

-- ---- a round

-- disjunctions in used stay in used
pub used_more : (before : List (List Lit)) (any : Option (List Lit)) (after : List (List Lit))
    (lits : List Lit) → AreUsed before any after → Contains before lits → Contains after lits
used_more before None after lits uses here =
    subst (λ (all : List (List Lit)). Contains all lits) (sym uses) here
used_more before (Some any) after lits (inl (there, same)) here =
    subst (λ (all : List (List Lit)). Contains all lits) (sym same) here
used_more before (Some any) after lits (inr (new, last)) here =
    subst (λ (all : List (List Lit)). Contains all lits) (sym last)
    (Contains-append_left before (any ∷ []) lits here)

module _ (worker next : Working) (job : Job) (slice : ℕ) (gain : Gain)
    (round : HasRounded worker job slice next gain) where
  -- a list in used is in used
  pub use_stays : (cands : List ℕ) → IsInUse worker cands → IsInUse next cands
  use_stays cands used =
      subst (λ (normal : Normal). Contains next.disjunctions (disjunction_of normal.names next.mode cands))
      (sym round.same.normal)
      (subst (λ (mode : Mode). Contains next.disjunctions (disjunction_of worker.normal.names mode cands))
      (sym round.same.mode)
      (used_more worker.disjunctions (disjunction_for worker.normal.names worker.mode job)
      next.disjunctions (disjunction_of worker.normal.names worker.mode cands) round.uses used))

  -- the list of the job is
  pub use_begins : (cands : List ℕ) → job ≡ Reduce cands → IsInUse next cands
  use_begins cands is =
      subst (λ (normal : Normal). Contains next.disjunctions (disjunction_of normal.names next.mode cands))
      (sym round.same.normal)
      (subst (λ (mode : Mode). Contains next.disjunctions (disjunction_of worker.normal.names mode cands))
      (sym round.same.mode)
      (used_there worker.disjunctions next.disjunctions
      (disjunction_of worker.normal.names worker.mode cands)
      (subst (λ (j : Job). AreUsed worker.disjunctions
      (disjunction_for worker.normal.names worker.mode j) next.disjunctions) is round.uses)))

  -- how many there are
  pub use_counts : (mid : Books) → AreListed worker mid job
      → length next.disjunctions ≤ (only mid).reduces
  use_counts mid are = by_job job refl round.uses
    where
      stays : next.disjunctions ≡ worker.disjunctions
          → length next.disjunctions ≤ (only mid).reduces
      stays same =
          let long : length next.disjunctions ≡ length worker.disjunctions =
          ap (λ (all : List (List Lit)). length all) same in
          omega (arith, long, are.lists)

      by_job : (other : Job) → job ≡ other
          → AreUsed worker.disjunctions (disjunction_for worker.normal.names worker.mode other)
          next.disjunctions
          → length next.disjunctions ≤ (only mid).reduces
      by_job Idle is uses = stays uses
      by_job Coherence is uses = stays uses
      by_job (Single cand) is uses = stays uses
      by_job (Chunk cands) is uses = stays uses
      by_job (Reduce cands) is (inl (there, same)) = stays same
      by_job (Reduce cands) is (inr (new, last)) =
          let any : List Lit = disjunction_of worker.normal.names worker.mode cands in
          let long : length next.disjunctions ≡ length worker.disjunctions + 1 =
          ap (λ (all : List (List Lit)). length all) last
          ∙ length-append worker.disjunctions (any ∷ []) in
          let more : length worker.disjunctions + 1 ≤ (only mid).reduces = are.next cands is new in
          omega (arith, long, more)

-- ---- the worker of the record after a merge

-- a read behind a write
read_set : (xs : List Worker) (one : Worker) → xs ≡ one ∷ [] → (next d : Worker)
    → get_or (set xs 0 next) 0 d ≡ next
read_set xs one is next d =
    subst (λ (ws : List Worker). get_or (set ws 0 next) 0 d ≡ next) (sym is) refl

module _ (mid new : Books) (gain : Gain) (lines : List Line) (merge : HasMerged mid 1 gain lines new)
    (workers : mid.workers ≡ only mid ∷ []) where
  pub only_is : only new ≡ marked (only mid) (mark_of gain.ended)
  only_is =
      ap (λ (b : Books). only b) merge.after
      ∙ read_set mid.workers (only mid) workers (marked (only mid) (mark_of gain.ended)) newcomer

  pub one_new : length new.workers ≡ 1
  one_new =
      ap (λ (b : Books). length b.workers) merge.after
      ∙ subst (λ (ws : List Worker). length (set ws 0 (marked (only mid) (mark_of gain.ended))) ≡ 1)
      (sym workers) refl

  pub own_is : new.own ≡ open_own new.pair (open_own mid.pair
      (mid.own ++ spent_own mid.own (only mid).job gain.ended))
  own_is =
      ap (λ (b : Books). b.own) merge.after
      ∙ ap (λ p. open_own p (open_own mid.pair
      (mid.own ++ spent_own mid.own (only mid).job gain.ended)))
      (sym (ap (λ (b : Books). b.pair) merge.after))

-- what marks keep
pub marked_job : (worker : Worker) (ended : RoundEnd) → (marked worker (mark_of ended)).job ≡ worker.job
marked_job worker Done = refl
marked_job worker Settled = refl
marked_job worker Paused = refl
marked_job worker (Spent test) = refl
marked_job worker (SpentWide test) = refl
marked_job worker NoMemory = refl

pub marked_reduces : (worker : Worker) (ended : RoundEnd)
    → (marked worker (mark_of ended)).reduces ≡ worker.reduces
marked_reduces worker Done = refl
marked_reduces worker Settled = refl
marked_reduces worker Paused = refl
marked_reduces worker (Spent test) = refl
marked_reduces worker (SpentWide test) = refl
marked_reduces worker NoMemory = refl

pub marked_last : (worker : Worker) (ended : RoundEnd)
    → (marked worker (mark_of ended)).last ≡ worker.last
marked_last worker Done = refl
marked_last worker Settled = refl
marked_last worker Paused = refl
marked_last worker (Spent test) = refl
marked_last worker (SpentWide test) = refl
marked_last worker NoMemory = refl

-- only a round that paused leaves the worker paused
pub marked_paused : (worker : Worker) (ended : RoundEnd)
    → (marked worker (mark_of ended)).paused ≡ true
    → (ended ≡ Paused) × ((marked worker (mark_of ended)).wide ≡ worker.wide)
marked_paused worker Done is = absurd (true≢false (sym is))
marked_paused worker Settled is = absurd (true≢false (sym is))
marked_paused worker Paused is = (refl, refl)
marked_paused worker (Spent test) is = absurd (true≢false (sym is))
marked_paused worker (SpentWide test) is = absurd (true≢false (sym is))
marked_paused worker NoMemory is = absurd (true≢false (sym is))
