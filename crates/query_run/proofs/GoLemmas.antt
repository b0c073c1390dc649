-- What a round does to a run.
use Rattle.std.proofs.Common.{◌≡◌, ◌≢◌, ◌≤◌, ◌<◌, ◌+◌, ◌-◌, ◌&&◌, not, ℕ}
use Rattle.std.proofs.Common.{Bool, true, false, List, [], ◌∷◌, ◌++◌, length, take, get_or}
use Rattle.std.proofs.Common.{refl, sym, ap, subst, ◌∙◌, ⊎_elim, inl, inr, arith, true≢false}
use Rattle.std.proofs.Common.{Option, Some, None, length-append, cond, eqb-true}
use Rattle.std.specs.Prelude.{All, Contains, IfSome, IfNone, IsSome, count_by}
use Rattle.std.proofs.lemmas.List.Sums.{AllPass-from_list_all}
use Rattle.std.proofs.lemmas.List.Elements.{All-append, All-head}
use Rattle.ground_program.specs.declared.program.Mode.{Mode}
use Rattle.clause_store.specs.declared.literal.Lit.{Lit}
use Rattle.clause_store.specs.Laws.{AreMoreClauses}
use Rattle.clause_store.specs.Entailment.{AreUnits}
use Rattle.normal_program.specs.declared.normal.Normal.{Normal}
use Rattle.normal_program.specs.declared.spent.SpentTest.{SpentTest}
use Rattle.normal_program.specs.Clauses.{base_clauses}
use Rattle.normal_program.specs.Spent.{AreApart}
use Rattle.report.specs.declared.lines.Line.{Line}
use Rattle.worker_jobs.specs.declared.job.Job.{Job}
use Rattle.worker_jobs.specs.declared.job.Job.TheVariants.{Idle, Coherence, Single, Reduce, Chunk}
use Rattle.worker_jobs.specs.declared.gain.Gain.{Gain}
use Rattle.worker_jobs.specs.declared.gain.RoundEnd.{RoundEnd}
use Rattle.worker_jobs.specs.declared.gain.RoundEnd.TheVariants.{Done, Settled, Paused, Spent}
use Rattle.worker_jobs.specs.declared.gain.RoundEnd.TheVariants.{SpentWide, NoMemory}
use Rattle.worker_jobs.specs.Gain.{IsTrueGain, Answers}
use Rattle.worker_jobs.specs.Job.{IsJobOver}
use Rattle.worker_jobs.specs.Spent.{IsTrueEnd}
use Rattle.clause_store.proofs.lemmas.Units.UnitLemmas.{units_among_fewer}
use Rattle.worker_strategies.specs.Working.{Working, KeptTest, HasRounded, EndsBy, IsPaused}
use Rattle.worker_strategies.specs.Working.{BeginsWith, HasBegun, HasSelectorFor, AreOwnUnits}
use Rattle.worker_strategies.proofs.TestLemmas.{front_among}
use Rattle.master_record.specs.declared.own.OwnTest.{OwnTest}
use Rattle.master_record.specs.declared.verdict.Verdict.TheVariants.{Running}
use Rattle.master_record.specs.declared.worker.Worker.{Worker}
use Rattle.master_record.specs.Rounds.{marked, mark_of}
use Rattle.master_record.specs.Course.{is_open}
use Rattle.master_record.specs.Books.{Books, IsOwed}
use Rattle.master_record.specs.Jobs.{CanGoOn, GoesOn, IsJob, HasJob, HasGiven}
use Rattle.master_record.specs.Merging.{HasMerged, IsApart}
use Rattle.master_record.specs.Sound.{IsSound}
use Rattle.master_record.specs.Told.{IsToldBy}
use Rattle.master_record.specs.Verdicts.{IsVerdict}
use Rattle.master_record.proofs.CourseLemmas.{and_left, and_right}
use Rattle.master_record.proofs.LawLemmas.{jobs_told}
use Rattle.query_run.specs.Agreed.{only, reach, IsInStep, IsPausedAt, IsAgreed, HasWorked, IsBehind}
use Rattle.query_run.specs.Progress.{all_of, undone, is_left, is_there, unsettled, unspent, can_go_on, goes_on}
use Rattle.query_run.specs.Progress.{kept_units, uncounted, weigh, to_do}
use Rattle.query_run.proofs.WeightLemmas.{first_falls, second_falls, third_falls}
use Rattle.query_run.proofs.JobLemmas.{IsAsked, open_by, workers_are, alive, asked_job}
use Rattle.query_run.proofs.JobLemmas.{IsOfUse, of_use}
use Rattle.query_run.proofs.JobLemmas.{asked_over, asked_selector, job_is, mid_workers, had_is}
use Rattle.query_run.proofs.ReachLemmas.{more_then, reach_began}
use Rattle.query_run.proofs.AgreeLemmas.{job_had, owed_had, wide_had, dead_had, only_is, one_new}
use Rattle.query_run.proofs.StepLemmas.{in_step}
use Rattle.query_run.proofs.FallLemmas.{first_stays, first_falls_done}
use Rattle.query_run.proofs.TurnLemmas.{second_stays, second_most, second_by_dead, second_by_wide}
use Rattle.query_run.proofs.TurnLemmas.{second_by_coherence, second_by_own, first_by_stop}

-- a job that can go on
can_by : (books : Books) (job : Job) → IsJobOver books.normal.names job
    → can_go_on books job ≡ true → CanGoOn books job
can_by books Idle over is = absurd (true≢false (sym is))
can_by books Coherence over is = eqb-true books.answers 0 is
can_by books (Single cand) over is = open_by books.normal.names books.pair cand over is
can_by books (Reduce cands) over is = λ k d within.
    open_by books.normal.names books.pair (get_or cands k d) (over.each k d within)
    (AllPass-from_list_all (is_open books.pair) cands is k d within)
can_by books (Chunk cands) over is = λ k d within.
    open_by books.normal.names books.pair (get_or cands k d) (over.each k d within)
    (AllPass-from_list_all (is_open books.pair) cands is k d within)

-- what holds where neither is there
none_of_both : {P Q R : Type 0} (a b : Option (List Bool)) → IfNone a P → IfNone b Q
    → (P → Q → R) → IfNone a (IfNone b R)
none_of_both None None p q then = then p q
none_of_both None (Some members) p q then = tt
none_of_both (Some members) b p q then = tt

none_then : {P Q : Type 0} (a : Option (List Bool)) → IfNone a P → (P → Q) → IfNone a Q
none_then None p then = then p
none_then (Some members) p then = tt

-- the units of a later test are apart from those that stand before it
apart_by : (normal : Normal) (one test : SpentTest) (clauses : List (List Lit))
    → IfNone one.inside (AreMoreClauses one.units clauses)
    → AreMoreClauses (base_clauses normal) clauses → IfNone test.inside (AreUnits clauses test.units)
    → AreApart normal one test
apart_by normal one test clauses earlier base later =
    none_of_both one.inside test.inside earlier later
    (λ (more : AreMoreClauses one.units clauses) (are : AreUnits clauses test.units).
    inl (units_among_fewer (base_clauses normal ++ one.units) clauses test.units
    (All-append (Contains clauses) (base_clauses normal) one.units base more) are))

-- what isn't counted is at most the budget
uncounted_most : (books : Books) (worker : Working) → uncounted books worker ≤ books.budget
uncounted_most books worker = by_test (goes_on books)
  where
    by_test : (b : Bool)
        → cond b (books.budget - kept_units worker.kept) books.budget ≤ books.budget
    by_test true = omega arith
    by_test false = omega arith

module _ (old mid : Books) (jobs : List Job) (job : Job) (worker : Working) (sound : IsSound old)
    (running : IsVerdict old Running) (agreed : IsAgreed old worker)
    (given : HasGiven old jobs mid) (is : jobs ≡ job ∷ []) where
  lives : (only old).dead ≡ false
  lives = alive old sound running agreed.one

  pub stepped : IsInStep old worker
  stepped =
      ⊎_elim (λ dead. absurd (true≢false (sym dead ∙ lives))) (λ step. step) agreed.step

  workers : old.workers ≡ only old ∷ []
  workers = workers_are old sound running agreed.one

  is_job : IsJob old [] (only old) [] 1 job
  is_job = job_is old mid jobs job given is workers

  had : HasJob old (only old) job (only mid)
  had = had_is old mid jobs job given is workers

  pub mid_is : mid.workers ≡ only mid ∷ []
  mid_is = mid_workers old mid jobs job given is workers

  asked : IsAsked old job
  asked = asked_job old sound running agreed.one worker stepped job is_job

  -- the job fits the worker
  pub fits_over : IsJobOver worker.normal.names job
  fits_over =
      subst (λ (n : Normal). IsJobOver n.names job) (sym stepped.normal)
      (asked_over old sound running agreed.one job asked)

  pub fits_selector : HasSelectorFor worker job
  fits_selector = asked_selector old sound running agreed.one worker stepped job asked

  pub fits_owed : IsOwed mid 1
  fits_owed =
      let long : length mid.workers ≡ 1 = ap (λ (ws : List Worker). length ws) mid_is in
      record {
        known = record { first = omega arith; last = omega (arith, long) };
        owed = owed_had old mid job had;
      }

  pub mid_job : (only mid).job ≡ job
  mid_job = job_had old mid job is_job had lives

  use_mid : IsOfUse mid job
  use_mid = of_use old mid job given.after asked

  -- ---- the end of a round fits the record

  module _ (next : Working) (slice : ℕ) (gain : Gain) where
    end_by : (other : Job) (ended : RoundEnd) → EndsBy worker other slice next gain ended
        → IsTrueEnd worker.normal worker.mode worker.number worker.budget other ended
    end_by other Done ends = tt
    end_by other Settled ends = tt
    end_by other Paused ends = tt
    end_by other (Spent test) ends = ends.spent
    end_by other (SpentWide test) ends = tt
    end_by other NoMemory ends = tt

    mid_normal : worker.normal ≡ mid.normal
    mid_normal = stepped.normal ∙ sym (ap (λ (b : Books). b.normal) given.after)

    mid_mode : worker.mode ≡ mid.mode
    mid_mode = stepped.mode ∙ sym (ap (λ (b : Books). b.mode) given.after)

    mid_budget : worker.budget ≡ mid.budget
    mid_budget = stepped.budget ∙ sym (ap (λ (b : Books). b.budget) given.after)

    end_of : (ended : RoundEnd)
        → IsTrueEnd worker.normal worker.mode worker.number worker.budget job ended
        → IsTrueEnd mid.normal mid.mode 1 mid.budget job ended
    end_of ended holds =
        subst (λ (n : Normal). IsTrueEnd n mid.mode 1 mid.budget job ended) mid_normal
        (subst (λ (m : Mode). IsTrueEnd worker.normal m 1 mid.budget job ended) mid_mode
        (subst (λ (k : ℕ). IsTrueEnd worker.normal worker.mode k mid.budget job ended)
        stepped.number
        (subst (λ (k : ℕ). IsTrueEnd worker.normal worker.mode worker.number k job ended)
        mid_budget holds)))

    pub fits_end : HasWorked worker job slice next gain
        → IsTrueEnd mid.normal mid.mode 1 mid.budget job gain.ended
    fits_end (inl is_lost) =
        subst (λ (e : RoundEnd). IsTrueEnd mid.normal mid.mode 1 mid.budget job e) (sym is_lost) tt
    fits_end (inr (round, living, begun)) =
        end_of gain.ended (end_by job gain.ended round.ends)

    pub fits_gain : IsTrueGain worker.normal worker.mode gain → IsTrueGain mid.normal mid.mode gain
    fits_gain holds =
        subst (λ (n : Normal). IsTrueGain n mid.mode gain) mid_normal
        (subst (λ (m : Mode). IsTrueGain worker.normal m gain) mid_mode holds)

    -- ---- tests of one candidate are apart

    mid_own : mid.own ≡ old.own
    mid_own = ap (λ (b : Books). b.own) given.after

    apart_of : HasRounded worker job slice next gain → HasBegun next → (other : Job)
        → (ended : RoundEnd) → EndsBy worker other slice next gain ended → IsApart mid 1 other ended
    apart_of round begun (Single cand) (Spent test) ends =
        let clauses : List (List Lit) = take next.began next.clauses in
        let same : next.normal ≡ mid.normal = round.same.normal ∙ mid_normal in
        let base : AreMoreClauses (base_clauses mid.normal) clauses =
        subst (λ (n : Normal). AreMoreClauses (base_clauses n) clauses) same
        (front_among (base_clauses next.normal) clauses begun.base) in
        let later : IfNone test.inside (AreUnits clauses test.units) =
        none_then test.inside ends.own (λ (own : AreOwnUnits next test.units). own.are) in
        λ k d within.
        let one : OwnTest = get_or mid.own k d in
        let behind : IsBehind worker one =
        subst (λ (xs : List OwnTest). All (IsBehind worker) xs) (sym mid_own) stepped.own k d within in
        λ by_same.
        apart_by mid.normal one.test test clauses
        (none_then one.test.inside behind
        (λ (more : AreMoreClauses one.test.units (reach worker)).
        more_then one.test.units (reach worker) clauses more
        (reach_began worker next job slice gain round stepped.begun)))
        base later
    apart_of round begun (Single cand) Done ends = tt
    apart_of round begun (Single cand) Settled ends = tt
    apart_of round begun (Single cand) Paused ends = tt
    apart_of round begun (Single cand) (SpentWide test) ends = tt
    apart_of round begun (Single cand) NoMemory ends = tt
    apart_of round begun Idle ended ends = tt
    apart_of round begun Coherence ended ends = tt
    apart_of round begun (Reduce cands) ended ends = tt
    apart_of round begun (Chunk cands) ended ends = tt

    lost_apart : (other : Job) → IsApart mid 1 other NoMemory
    lost_apart Idle = tt
    lost_apart Coherence = tt
    lost_apart (Single cand) = tt
    lost_apart (Reduce cands) = tt
    lost_apart (Chunk cands) = tt

    pub fits_apart : HasWorked worker job slice next gain → IsApart mid 1 job gain.ended
    fits_apart (inl is_lost) = subst (IsApart mid 1 job) (sym is_lost) (lost_apart job)
    fits_apart (inr (round, living, begun)) =
        apart_of round begun job gain.ended round.ends

    -- ---- the merge

    module _ (new : Books) (lines before : List Line) (sound_mid : IsSound mid)
        (is_true : IsTrueGain mid.normal mid.mode gain) (tells : IsToldBy before old)
        (merge : HasMerged mid 1 gain lines new) (some : 1 ≤ slice) where
      tells_mid : IsToldBy before mid
      tells_mid = jobs_told before old mid jobs tells given

      new_only : only new ≡ marked (only mid) (mark_of gain.ended)
      new_only = only_is mid new gain lines merge mid_is

      lost_dead : gain.ended ≡ NoMemory → (only new).dead ≡ true
      lost_dead is_lost =
          ap (λ (w : Worker). w.dead) new_only
          ∙ ap (λ (e : RoundEnd). (marked (only mid) (mark_of e)).dead) is_lost

      pub agreed_now : HasWorked worker job slice next gain → IsAgreed new next
      agreed_now (inl is_lost) =
          record {
            one = one_new mid new gain lines merge mid_is;
            step = inl (lost_dead is_lost);
          }
      agreed_now (inr (round, living, begun)) =
          record {
            one = one_new mid new gain lines merge mid_is;
            step = inr (in_step old mid new worker next job slice gain lines stepped lives is_job
                had asked given.after mid_is round living begun merge);
          }

      -- ---- what is left to do

      first_same : unsettled mid ≡ unsettled old
      first_same = ap (λ (b : Books). unsettled b) given.after

      second_same : unspent mid ≡ unspent old
      second_same =
          let left : count_by (is_left mid) (all_of mid) ≡ count_by (is_left old) (all_of old) =
          ap (λ (b : Books). count_by (is_left b) (all_of b)) given.after in
          let test : is_there mid.coherence ≡ is_there old.coherence =
          ap (λ (b : Books). is_there b.coherence) given.after in
          let test_same : undone (is_there mid.coherence) ≡ undone (is_there old.coherence) =
          ap undone test in
          let wide : undone (only mid).wide ≡ undone (only old).wide =
          ap undone (wide_had old mid job had) in
          let dead : undone (only mid).dead ≡ undone (only old).dead =
          ap undone (dead_had old mid job had) in
          omega (arith, left, test_same, wide, dead)

      most : ℕ
      most = length new.normal.names + 3

      most_same : length new.normal.names ≡ length old.normal.names
      most_same =
          ap (λ (b : Books). length b.normal.names) merge.after
          ∙ ap (λ (b : Books). length b.normal.names) given.after

      budget_same : new.budget ≡ old.budget
      budget_same =
          ap (λ (b : Books). b.budget) merge.after ∙ ap (λ (b : Books). b.budget) given.after

      -- the weight of the old record, by the new one's names and budget
      abbrev was : ℕ
      was = weigh (length new.normal.names + 3) new.budget (unsettled old) (unspent old)
          (uncounted old worker)

      was_is : was ≡ to_do old worker
      was_is =
          ap (λ n. weigh (n + 3) new.budget (unsettled old) (unspent old) (uncounted old worker))
          most_same
          ∙ ap (λ n. weigh (length old.normal.names + 3) n (unsettled old) (unspent old)
          (uncounted old worker)) budget_same

      less_was : to_do new next < was → to_do new next < to_do old worker
      less_was less = subst (λ n. to_do new next < n) was_is less

      second_within : unspent new ≤ length new.normal.names + 3
      second_within = second_most mid new gain lines before sound_mid is_true tells_mid merge mid_is

      first_within : unsettled new ≤ unsettled old
      first_within =
          omega (
            arith,
            first_same,
            first_stays mid new gain lines before sound_mid is_true tells_mid merge mid_is,
          )

      by_first : unsettled new < unsettled mid → to_do new next < to_do old worker
      by_first less =
          less_was (first_falls (length new.normal.names + 3) new.budget (unsettled new)
          (unspent new) (uncounted new next) (unsettled old) (unspent old) (uncounted old worker)
          (omega (arith, first_same, less)) second_within (uncounted_most new next))

      by_second : unspent new < unspent mid → to_do new next < to_do old worker
      by_second less =
          less_was (second_falls (length new.normal.names + 3) new.budget (unsettled new)
          (unspent new) (uncounted new next) (unsettled old) (unspent old) (uncounted old worker)
          first_within (omega (arith, second_same, less)) (uncounted_most new next))

      by_third : uncounted new next < uncounted old worker → to_do new next < to_do old worker
      by_third less =
          less_was (third_falls (length new.normal.names + 3) new.budget (unsettled new)
          (unspent new) (uncounted new next) (unsettled old) (unspent old) (uncounted old worker)
          first_within
          (omega (
            arith,
            second_same,
            second_stays mid new gain lines before sound_mid is_true tells_mid merge mid_is,
          ))
          less)

      coherent : mid.incoherent ≡ false
      coherent = ap (λ (b : Books). b.incoherent) given.after ∙ running.1

      -- no test of coherence was spent where no answer set is known
      none_there : mid.answers ≡ 0 → is_there mid.coherence ≡ false
      none_there unanswered =
          ap (λ (b : Books). is_there b.coherence) given.after ∙ by_test old.coherence refl
        where
          by_test : (test : Option SpentTest) → old.coherence ≡ test → is_there old.coherence ≡ false
          by_test None is_none = ap (λ (o : Option SpentTest). is_there o) is_none
          by_test (Some test) is_some =
              absurd (running.2 (inl (
                sym (ap (λ (b : Books). b.answers) given.after) ∙ unanswered,
                subst IsSome (sym is_some) refl,
              )))

      -- a round that spent a test
      spent_falls : (test : SpentTest) → gain.ended ≡ Spent test → (other : Job) → job ≡ other
          → IsOfUse mid other → EndsBy worker other slice next gain (Spent test)
          → to_do new next < to_do old worker
      spent_falls test ended Idle is_other used ends = absurd used
      spent_falls test ended Coherence is_other used ends =
          by_second (second_by_coherence mid new gain lines before sound_mid is_true tells_mid merge
          mid_is test (none_there used) (mid_job ∙ is_other) ended)
      spent_falls test ended (Single cand) is_other used ends =
          by_second (second_by_own mid new gain lines before sound_mid is_true tells_mid merge mid_is
          cand test (mid_job ∙ is_other) ended used)
      spent_falls test ended (Reduce cands) is_other used ends = absurd ends.spent
      spent_falls test ended (Chunk cands) is_other used ends = absurd ends.spent

      narrow_of : (other : Job) → job ≡ other → IsAsked old other
          → (test : SpentTest) → EndsBy worker other slice next gain (SpentWide test)
          → (only mid).wide ≡ false
      narrow_of Idle is_other now test ends = absurd now
      narrow_of Coherence is_other now test ends = absurd ends.spent
      narrow_of (Single cand) is_other now test ends = absurd ends.spent
      narrow_of (Reduce cands) is_other now test ends = wide_had old mid job had ∙ now.0.narrow
      narrow_of (Chunk cands) is_other now test ends = wide_had old mid job had ∙ now.narrow

      -- ---- a paused round

      kept_length : (kept : Option KeptTest) (units : List (List Lit))
          → kept ≡ Some (record { job = job; units = units }) → kept_units kept ≡ length units
      kept_length kept units is_kept = ap (λ (o : Option KeptTest). kept_units o) is_kept

      -- the old test goes on: so many units were kept
      kept_before : (units : List (List Lit)) → BeginsWith worker job units next
          → goes_on old ≡ true → kept_units worker.kept ≡ length units
      kept_before units (inl goes) is_on = kept_length worker.kept units goes.kept
      kept_before units (inr anew) is_on =
          let on : Bool = (only old).paused && can_go_on old (only old).job in
          let paused : (only old).paused ≡ true =
          and_left (only old).paused (can_go_on old (only old).job)
          (and_right (not (only old).dead) on is_on) in
          let can : can_go_on old (only old).job ≡ true =
          and_right (only old).paused (can_go_on old (only old).job)
          (and_right (not (only old).dead) on is_on) in
          let over : IsJobOver old.normal.names (only old).job =
          All-head (λ (w : Worker). IsJobOver old.normal.names w.job) (only old) []
          (subst (All (λ (w : Worker). IsJobOver old.normal.names w.job)) workers sound.jobs) in
          let goes : GoesOn old (only old) =
          record { alive = lives; paused = paused; can = can_by old (only old).job over can } in
          let held : IsPausedAt old worker = stepped.paused paused in
          absurd (other_kept worker.kept anew.other held.units (job_when is_job goes) held.kept)
        where
          job_when : IsJob old [] (only old) [] 1 job → GoesOn old (only old) → (only old).job ≡ job
          job_when (inl (dead, idle)) goes = absurd (true≢false (sym dead ∙ lives))
          job_when (inr (inl (again, same))) goes = sym same
          job_when (inr (inr (living, not_goes, another))) goes = absurd (not_goes goes)

          job_in : (test : KeptTest) (some_units : List (List Lit))
              → Some test ≡ Some (record { job = (only old).job; units = some_units })
              → test.job ≡ (only old).job
          job_in test some_units e = cc

          other_kept : (kept : Option KeptTest) → IfSome kept (λ k. k.job ≢ job)
              → (some_units : List (List Lit)) → (only old).job ≡ job
              → kept ≡ Some (record { job = (only old).job; units = some_units }) → ⊥
          other_kept None differs some_units same is_kept = cc
          other_kept (Some test) differs some_units same is_kept =
              differs (job_in test some_units is_kept ∙ same)

      paused_falls : gain.ended ≡ Paused → IsPaused worker job slice next
          → to_do new next < to_do old worker
      paused_falls ended paused = by_on (can_go_on new job) refl
        where
          new_job : (only new).job ≡ job
          new_job =
              ap (λ (w : Worker). w.job) new_only
              ∙ ap (λ (e : RoundEnd). (marked (only mid) (mark_of e)).job) ended ∙ mid_job

          new_paused : (only new).paused ≡ true
          new_paused =
              ap (λ (w : Worker). w.paused) new_only
              ∙ ap (λ (e : RoundEnd). (marked (only mid) (mark_of e)).paused) ended

          new_dead : (only new).dead ≡ false
          new_dead =
              ap (λ (w : Worker). w.dead) new_only
              ∙ ap (λ (e : RoundEnd). (marked (only mid) (mark_of e)).dead) ended
              ∙ dead_had old mid job had ∙ lives

          long : length (paused.before ++ paused.units)
              ≡ length paused.before + length paused.units
          long = length-append paused.before paused.units

          new_kept : kept_units next.kept ≡ length paused.before + slice
          new_kept =
              kept_length next.kept (paused.before ++ paused.units) paused.kept ∙ long
              ∙ ap (λ n. length paused.before + n) paused.all

          now_on : can_go_on new job ≡ true → goes_on new ≡ true
          now_on can =
              ap (λ (d : Bool). not d && ((only new).paused && can_go_on new (only new).job)) new_dead
              ∙ ap (λ (p : Bool). p && can_go_on new (only new).job) new_paused
              ∙ ap (λ (j : Job). can_go_on new j) new_job ∙ can

          now_left : goes_on new ≡ true
              → uncounted new next ≡ new.budget - (length paused.before + slice)
          now_left on =
              ap (λ (b : Bool). cond b (new.budget - kept_units next.kept) new.budget) on
              ∙ ap (λ n. new.budget - n) new_kept

          then_left : (b : Bool) → goes_on old ≡ b
              → uncounted old worker ≡ cond b (old.budget - kept_units worker.kept) old.budget
          then_left b on =
              ap (λ (c : Bool). cond c (old.budget - kept_units worker.kept) old.budget) on

          below : length paused.before + slice < old.budget
          below = omega (arith, paused.below, paused.all, stepped.budget)

          falls : (b : Bool) → goes_on old ≡ b → goes_on new ≡ true
              → uncounted new next < uncounted old worker
          falls true on now =
              omega (
                arith,
                below,
                some,
                budget_same,
                now_left now,
                then_left true on,
                kept_before paused.before paused.begins on,
              )
          falls false on now =
              omega (arith, below, some, budget_same, now_left now, then_left false on)

          by_on : (b : Bool) → can_go_on new job ≡ b → to_do new next < to_do old worker
          by_on true can = by_third (falls (goes_on old) refl (now_on can))
          by_on false can =
              by_first (first_by_stop mid new gain lines before sound_mid is_true tells_mid merge
              mid_is job use_mid can)

      -- ---- each round

      ended_falls : HasRounded worker job slice next gain → (ended : RoundEnd)
          → gain.ended ≡ ended → EndsBy worker job slice next gain ended
          → to_do new next < to_do old worker
      ended_falls round Done is_end ends =
          by_first (first_falls_done mid new gain lines before sound_mid is_true tells_mid merge
          mid_is job use_mid coherent
          (subst (λ (n : Normal). Answers n.names mid.mode job gain) mid_normal
          (subst (λ (m : Mode). Answers worker.normal.names m job gain) mid_mode ends.answers)))
      ended_falls round Settled is_end ends = absurd ends
      ended_falls round Paused is_end ends = paused_falls is_end ends
      ended_falls round (Spent test) is_end ends =
          spent_falls test is_end job refl use_mid ends
      ended_falls round (SpentWide test) is_end ends =
          by_second (second_by_wide mid new gain lines before sound_mid is_true tells_mid merge
          mid_is test (narrow_of job refl asked test ends) is_end)
      ended_falls round NoMemory is_end ends = absurd ends

      pub less_now : HasWorked worker job slice next gain → to_do new next < to_do old worker
      less_now (inl is_lost) =
          by_second (second_by_dead mid new gain lines before sound_mid is_true tells_mid merge
          mid_is (dead_had old mid job had ∙ lives) is_lost)
      less_now (inr (round, living, begun)) = ended_falls round gain.ended refl round.ends
