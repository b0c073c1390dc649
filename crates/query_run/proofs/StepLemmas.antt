-- The record and its worker are in step after a round.
use Rattle.std.proofs.Common.{◌≡◌, ◌≤◌, ◌+◌, ◌⊎◌, ℕ, Bool}
use Rattle.std.proofs.Common.{true, false, List, [], ◌∷◌, ◌++◌, length, get_or, refl}
use Rattle.std.proofs.Common.{sym, ap, subst, ◌∙◌, inl, inr, arith}
use Rattle.std.proofs.Common.{Option, Some, None, append-nil, length-append, cond, nat_eq}
use Rattle.std.specs.Prelude.{All, Any, IfSome, IfNone}
use Rattle.std.specs.List.{list_any}
use Rattle.std.proofs.lemmas.List.Elements.{All-filter, All-append, All-nil, All-cons}
use Rattle.clause_store.specs.declared.literal.Lit.{Lit}
use Rattle.clause_store.specs.Laws.{AreMoreClauses}
use Rattle.normal_program.specs.declared.spent.SpentTest.{SpentTest}
use Rattle.worker_jobs.specs.declared.job.Job.{Job}
use Rattle.worker_jobs.specs.declared.job.Job.TheVariants.{Idle, Coherence, Single, Reduce, Chunk}
use Rattle.worker_jobs.specs.declared.gain.Gain.{Gain}
use Rattle.worker_jobs.specs.declared.gain.RoundEnd.{RoundEnd}
use Rattle.worker_jobs.specs.declared.gain.RoundEnd.TheVariants.{Done, Settled, Paused, Spent}
use Rattle.worker_jobs.specs.declared.gain.RoundEnd.TheVariants.{SpentWide, NoMemory}
use Rattle.worker_strategies.specs.Working.{Working, KeptTest, HasBegun, HasRounded, EndsBy}
use Rattle.worker_strategies.specs.Working.{IsPaused, AreOwnUnits}
use Rattle.report.specs.declared.lines.Line.{Line}
use Rattle.master_record.specs.declared.own.OwnTest.{OwnTest}
use Rattle.master_record.specs.declared.worker.Worker.{Worker}
use Rattle.master_record.specs.Rounds.{marked, mark_of}
use Rattle.master_record.specs.Course.{is_open}
use Rattle.master_record.specs.Books.{Books, open_own}
use Rattle.master_record.specs.Jobs.{HasJob, IsJob}
use Rattle.master_record.specs.Merging.{HasMerged, spent_own, new_own}
use Rattle.master_record.specs.Verdicts.{IsTested}
use Rattle.master_record.proofs.FoundLemmas.{any_unfiltered}
use Rattle.query_run.specs.Agreed.{only, reach, reach_of, IsBehind, IsInUse, IsUnspent}
use Rattle.query_run.specs.Agreed.{IsPausedAt, IsInStep}
use Rattle.query_run.proofs.JobLemmas.{IsAsked}
use Rattle.query_run.proofs.ReachLemmas.{more_then, reach_grows}
use Rattle.query_run.proofs.AgreeLemmas.{AreListed, listed, job_had, wide_had, use_stays}
use Rattle.query_run.proofs.AgreeLemmas.{use_begins, use_counts, only_is, own_is, marked_job}
use Rattle.query_run.proofs.AgreeLemmas.{marked_reduces, marked_last, marked_paused}

module _ (old mid new : Books) (worker next : Working) (job : Job) (slice : ℕ) (gain : Gain)
    (lines : List Line) (step : IsInStep old worker) (alive : (only old).dead ≡ false)
    (is_job : IsJob old [] (only old) [] 1 job) (had : HasJob old (only old) job (only mid))
    (asked : IsAsked old job) (others : mid ≡ record old { workers = mid.workers })
    (workers : mid.workers ≡ only mid ∷ [])
    (round : HasRounded worker job slice next gain) (lives : next.dead ≡ false)
    (begun : HasBegun next) (merge : HasMerged mid 1 gain lines new) where
  job_is : (only mid).job ≡ job
  job_is = job_had old mid job is_job had alive

  mid_own : mid.own ≡ old.own
  mid_own = ap (λ (b : Books). b.own) others

  same_normal : next.normal ≡ new.normal
  same_normal =
      round.same.normal ∙ step.normal
      ∙ sym (ap (λ (b : Books). b.normal) merge.after ∙ ap (λ (b : Books). b.normal) others)

  same_mode : next.mode ≡ new.mode
  same_mode =
      round.same.mode ∙ step.mode
      ∙ sym (ap (λ (b : Books). b.mode) merge.after ∙ ap (λ (b : Books). b.mode) others)

  new_budget : new.budget ≡ old.budget
  new_budget = ap (λ (b : Books). b.budget) merge.after ∙ ap (λ (b : Books). b.budget) others

  same_budget : next.budget ≡ new.budget
  same_budget = round.same.budget ∙ step.budget ∙ sym new_budget

  are : AreListed worker mid job
  are = listed old mid worker job step is_job alive had

  -- ---- own tests

  -- the earlier ones
  own_behind : All (IsBehind next) old.own
  own_behind = λ k d within.
      let one : OwnTest = get_or old.own k d in
      behind_more one (step.own k d within)
    where
      more : (inside : Option (List Bool)) (units : List (List Lit))
          → IfNone inside (AreMoreClauses units (reach worker))
          → IfNone inside (AreMoreClauses units (reach next))
      more None units stand =
          more_then units (reach worker) (reach next) stand
          (reach_grows worker next job slice gain round step.begun)
      more (Some members) units stand = tt

      behind_more : (one : OwnTest) → IsBehind worker one → IsBehind next one
      behind_more one behind = more one.test.inside one.test.units behind

  -- the one that was spent now
  new_behind : (own : List OwnTest) (one : OwnTest) → IsBehind next one
      → All (IsBehind next) (new_own own one)
  new_behind own one behind =
      by_test (list_any (λ (other : OwnTest). nat_eq other.cand one.cand) own)
    where
      by_test : (b : Bool) → All (IsBehind next) (cond b [] (one ∷ []))
      by_test true = All-nil (IsBehind next)
      by_test false = All-cons (IsBehind next) one [] behind (All-nil (IsBehind next))

  -- the clauses that are reached once nothing is kept
  reach_all : next.kept ≡ None → reach next ≡ next.clauses
  reach_all none = ap (λ (o : Option KeptTest). reach_of o next.began next.clauses) none

  own_units : (test : SpentTest) (cand : ℕ) → IfNone test.inside (AreOwnUnits next test.units)
      → next.kept ≡ None → IsBehind next (record { cand = cand; test = test })
  own_units test cand own none = by_inside test.inside own
    where
      by_inside : (inside : Option (List Bool)) → IfNone inside (AreOwnUnits next test.units)
          → IfNone inside (AreMoreClauses test.units (reach next))
      by_inside None units =
          subst (λ (all : List (List Lit)). AreMoreClauses test.units all) (sym (reach_all none))
          units.among
      by_inside (Some members) units = tt

  spent_behind : (other : Job) (ended : RoundEnd) → EndsBy worker other slice next gain ended
      → All (IsBehind next) (spent_own mid.own other ended)
  spent_behind (Single cand) (Spent test) ends =
      new_behind mid.own (record { cand = cand; test = test })
      (own_units test cand ends.own ends.nothing)
  spent_behind (Single cand) Done ends = All-nil (IsBehind next)
  spent_behind (Single cand) Settled ends = All-nil (IsBehind next)
  spent_behind (Single cand) Paused ends = All-nil (IsBehind next)
  spent_behind (Single cand) (SpentWide test) ends = All-nil (IsBehind next)
  spent_behind (Single cand) NoMemory ends = All-nil (IsBehind next)
  spent_behind Idle ended ends = All-nil (IsBehind next)
  spent_behind Coherence ended ends = All-nil (IsBehind next)
  spent_behind (Reduce cands) ended ends = All-nil (IsBehind next)
  spent_behind (Chunk cands) ended ends = All-nil (IsBehind next)

  all_behind : All (IsBehind next) new.own
  all_behind =
      let spent : List OwnTest = spent_own mid.own (only mid).job gain.ended in
      let both : All (IsBehind next) (mid.own ++ spent) =
      All-append (IsBehind next) mid.own spent
      (subst (All (IsBehind next)) (sym mid_own) own_behind)
      (subst (λ (j : Job). All (IsBehind next) (spent_own mid.own j gain.ended)) (sym job_is)
      (spent_behind job gain.ended round.ends)) in
      subst (All (IsBehind next)) (sym (own_is mid new gain lines merge workers))
      (All-filter (λ (one : OwnTest). is_open new.pair one.cand) (IsBehind next)
      (open_own mid.pair (mid.own ++ spent))
      (All-filter (λ (one : OwnTest). is_open mid.pair one.cand) (IsBehind next)
      (mid.own ++ spent) both))

  -- ---- a paused test

  -- nothing was spent by a round that paused
  none_spent : (other : Job) → spent_own mid.own other Paused ≡ []
  none_spent Idle = refl
  none_spent Coherence = refl
  none_spent (Single cand) = refl
  none_spent (Reduce cands) = refl
  none_spent (Chunk cands) = refl

  -- so a candidate without a test has none
  untested : gain.ended ≡ Paused → (cand : ℕ) → ¬ IsTested old cand → ¬ IsTested new cand
  untested paused cand none found =
      let spent : List OwnTest = spent_own mid.own (only mid).job gain.ended in
      let empty : spent ≡ [] =
      ap (spent_own mid.own (only mid).job) paused ∙ none_spent (only mid).job in
      let all : mid.own ++ spent ≡ old.own =
      ap (λ (xs : List OwnTest). mid.own ++ xs) empty ∙ append-nil mid.own ∙ mid_own in
      let has : OwnTest → Type 0 = λ one. one.cand ≡ cand in
      none (subst (Any has) all
      (any_unfiltered has (λ (one : OwnTest). is_open mid.pair one.cand) (mid.own ++ spent)
      (any_unfiltered has (λ (one : OwnTest). is_open new.pair one.cand)
      (open_own mid.pair (mid.own ++ spent))
      (subst (Any has) (own_is mid new gain lines merge workers) found))))

  still_unspent : gain.ended ≡ Paused → (only new).wide ≡ (only old).wide → (other : Job)
      → job ≡ other → IsAsked old other → IsUnspent new next other
  still_unspent paused same Idle is now = absurd now
  still_unspent paused same Coherence is now = tt
  still_unspent paused same (Single cand) is now = untested paused cand now.unspent
  still_unspent paused same (Reduce cands) is now =
      (same ∙ now.0.narrow, use_begins worker next job slice gain round cands is)
  still_unspent paused same (Chunk cands) is now = same ∙ now.narrow

  new_only : only new ≡ marked (only mid) (mark_of gain.ended)
  new_only = only_is mid new gain lines merge workers

  new_job : (only new).job ≡ job
  new_job =
      ap (λ (w : Worker). w.job) new_only ∙ marked_job (only mid) gain.ended ∙ job_is

  paused_at : (only new).paused ≡ true → IsPausedAt new next
  paused_at is =
      let both = marked_paused (only mid) gain.ended
      (subst (λ (w : Worker). w.paused ≡ true) new_only is) in
      let wide : (only new).wide ≡ (only old).wide =
      ap (λ (w : Worker). w.wide) new_only ∙ both.1 ∙ wide_had old mid job had in
      let ends : IsPaused worker job slice next =
      subst (EndsBy worker job slice next gain) both.0 round.ends in
      let long : length (ends.before ++ ends.units) ≡ length ends.before + length ends.units =
      length-append ends.before ends.units in
      record {
        units = ends.before ++ ends.units;
        kept =
            ends.kept
            ∙ ap (λ (j : Job). Some (record { job = j; units = ends.before ++ ends.units }))
            (sym new_job);
        below =
            let budget : worker.budget ≡ new.budget = step.budget ∙ sym new_budget in
            omega (arith, long, ends.below, budget);
        unspent = subst (IsUnspent new next) (sym new_job)
            (still_unspent both.0 wide job refl asked);
      }

  -- ---- lists

  last_used : (o : Option (List ℕ)) → IfSome o (λ cands. IsInUse worker cands ⊎ (job ≡ Reduce cands))
      → IfSome o (IsInUse next)
  last_used None used = tt
  last_used (Some cands) (inl used) = use_stays worker next job slice gain round cands used
  last_used (Some cands) (inr is) = use_begins worker next job slice gain round cands is

  pub in_step : IsInStep new next
  in_step = record {
    normal = same_normal;
    mode = same_mode;
    number = round.same.number ∙ step.number;
    budget = same_budget;
    alive = lives;
    begun = begun;
    paused = paused_at;
    lists = subst (λ n. length next.disjunctions ≤ n)
        (sym (ap (λ (w : Worker). w.reduces) new_only ∙ marked_reduces (only mid) gain.ended))
        (use_counts worker next job slice gain round mid are);
    last = subst (λ (o : Option (List ℕ)). IfSome o (IsInUse next))
        (sym (ap (λ (w : Worker). w.last) new_only ∙ marked_last (only mid) gain.ended))
        (last_used (only mid).last are.last);
    own = all_behind;
  }
