-- Each round leaves less to do.
use Rattle.std.proofs.Common.{◌≡◌, ◌≤◌, ◌<◌, ◌+◌, ◌&&◌, not, ℕ, zero}
use Rattle.std.proofs.Common.{suc, Bool, true, false, List, [], ◌∷◌, ◌++◌, length}
use Rattle.std.proofs.Common.{refl, sym, ap, subst, ◌∙◌, arith, true≢false}
use Rattle.std.proofs.Common.{Option, cond, nat_eq}
use Rattle.std.specs.Prelude.{All, Any, count_by}
use Rattle.std.specs.List.{list_any, list_all}
use Rattle.normal_program.specs.declared.spent.SpentTest.{SpentTest}
use Rattle.report.specs.declared.lines.Line.{Line}
use Rattle.worker_jobs.specs.declared.job.Job.{Job}
use Rattle.worker_jobs.specs.declared.job.Job.TheVariants.{Idle, Coherence, Single, Reduce, Chunk}
use Rattle.worker_jobs.specs.declared.gain.Gain.{Gain}
use Rattle.worker_jobs.specs.declared.gain.RoundEnd.{RoundEnd}
use Rattle.worker_jobs.specs.declared.gain.RoundEnd.TheVariants.{Done, Settled, Paused, Spent}
use Rattle.worker_jobs.specs.declared.gain.RoundEnd.TheVariants.{SpentWide, NoMemory}
use Rattle.worker_jobs.specs.Gain.{IsTrueGain}
use Rattle.master_record.specs.declared.own.OwnTest.{OwnTest}
use Rattle.master_record.specs.declared.worker.Worker.{Worker}
use Rattle.master_record.specs.Rounds.{marked, mark_of}
use Rattle.master_record.specs.Course.{is_open}
use Rattle.master_record.specs.Books.{Books, IsOpenCandidate, open_own}
use Rattle.master_record.specs.Jobs.{IsUntested}
use Rattle.master_record.specs.Merging.{HasMerged, spent_own, spent_coherence}
use Rattle.master_record.specs.Sound.{IsSound}
use Rattle.master_record.specs.Told.{IsToldBy}
use Rattle.master_record.specs.Verdicts.{IsTested}
use Rattle.master_record.proofs.CourseLemmas.{and_left, and_right, and_both, not_true, true_not}
use Rattle.master_record.proofs.CourseLemmas.{not_so}
use Rattle.master_record.proofs.LeftLemmas.{any_filtered}
use Rattle.master_record.proofs.FoundLemmas.{is_open_of}
use Rattle.query_run.specs.Agreed.{only}
use Rattle.query_run.specs.Progress.{all_of, undone, is_there, is_left, unsettled, unspent}
use Rattle.query_run.specs.Progress.{can_go_on}
use Rattle.query_run.proofs.JobLemmas.{IsOfUse}
use Rattle.query_run.proofs.AgreeLemmas.{only_is, own_is}
use Rattle.query_run.proofs.FallLemmas.{undone_less, undone_falls, undone_most, is_tested}
use Rattle.query_run.proofs.FallLemmas.{tested_is}
use Rattle.query_run.proofs.FallLemmas.{left_fewer, left_falls, left_most}
use Rattle.query_run.proofs.FallLemmas.{first_by_open, first_by_answer}

-- ---- the second number

-- what stays of a worker
wide_stays : (worker : Worker) (ended : RoundEnd) → worker.wide ≡ true
    → (marked worker (mark_of ended)).wide ≡ true
wide_stays worker Done is = is
wide_stays worker Settled is = is
wide_stays worker Paused is = is
wide_stays worker (Spent test) is = is
wide_stays worker (SpentWide test) is = refl
wide_stays worker NoMemory is = is

dead_stays : (worker : Worker) (ended : RoundEnd) → worker.dead ≡ true
    → (marked worker (mark_of ended)).dead ≡ true
dead_stays worker Done is = is
dead_stays worker Settled is = is
dead_stays worker Paused is = is
dead_stays worker (Spent test) is = is
dead_stays worker (SpentWide test) is = is
dead_stays worker NoMemory is = refl

-- a spent test of coherence stays
test_stays : (test : Option SpentTest) (job : Job) (ended : RoundEnd) → is_there test ≡ true
    → is_there (spent_coherence test job ended) ≡ true
test_stays test Coherence (Spent other) is = refl
test_stays test Coherence Done is = is
test_stays test Coherence Settled is = is
test_stays test Coherence Paused is = is
test_stays test Coherence (SpentWide other) is = is
test_stays test Coherence NoMemory is = is
test_stays test Idle ended is = is
test_stays test (Single cand) ended is = is
test_stays test (Reduce cands) ended is = is
test_stays test (Chunk cands) ended is = is

module _ (mid new : Books) (gain : Gain) (lines before : List Line) (sound : IsSound mid)
    (is_true : IsTrueGain mid.normal mid.mode gain) (tells : IsToldBy before mid)
    (merge : HasMerged mid 1 gain lines new) (workers : mid.workers ≡ only mid ∷ []) where
  new_only : only new ≡ marked (only mid) (mark_of gain.ended)
  new_only = only_is mid new gain lines merge workers

  coherence_is : new.coherence ≡ spent_coherence mid.coherence (only mid).job gain.ended
  coherence_is = ap (λ (b : Books). b.coherence) merge.after

  coherence_less : undone (is_there new.coherence) ≤ undone (is_there mid.coherence)
  coherence_less =
      undone_less (is_there mid.coherence) (is_there new.coherence)
      (λ is. ap (λ (o : Option SpentTest). is_there o) coherence_is
      ∙ test_stays mid.coherence (only mid).job gain.ended is)

  wide_less : undone (only new).wide ≤ undone (only mid).wide
  wide_less =
      undone_less (only mid).wide (only new).wide
      (λ is. ap (λ (w : Worker). w.wide) new_only ∙ wide_stays (only mid) gain.ended is)

  dead_less : undone (only new).dead ≤ undone (only mid).dead
  dead_less =
      undone_less (only mid).dead (only new).dead
      (λ is. ap (λ (w : Worker). w.dead) new_only ∙ dead_stays (only mid) gain.ended is)

  fewer : count_by (is_left new) (all_of new) ≤ count_by (is_left mid) (all_of mid)
  fewer = left_fewer mid new gain lines before sound is_true tells merge workers

  pub second_stays : unspent new ≤ unspent mid
  second_stays = omega (arith, fewer, coherence_less, wide_less, dead_less)

  pub second_most : unspent new ≤ length new.normal.names + 3
  second_most =
      omega (
        arith,
        left_most mid new gain lines before sound is_true tells merge workers,
        undone_most (is_there new.coherence),
        undone_most (only new).wide,
        undone_most (only new).dead,
      )

  pub second_by_dead : (only mid).dead ≡ false → gain.ended ≡ NoMemory → unspent new < unspent mid
  second_by_dead lives is =
      let falls : undone (only new).dead < undone (only mid).dead =
      undone_falls (only mid).dead (only new).dead lives
      (ap (λ (w : Worker). w.dead) new_only
      ∙ ap (λ (ended : RoundEnd). (marked (only mid) (mark_of ended)).dead) is) in
      omega (arith, fewer, coherence_less, wide_less, falls)

  pub second_by_wide : (test : SpentTest) → (only mid).wide ≡ false
      → gain.ended ≡ SpentWide test → unspent new < unspent mid
  second_by_wide test narrow is =
      let falls : undone (only new).wide < undone (only mid).wide =
      undone_falls (only mid).wide (only new).wide narrow
      (ap (λ (w : Worker). w.wide) new_only
      ∙ ap (λ (ended : RoundEnd). (marked (only mid) (mark_of ended)).wide) is) in
      omega (arith, fewer, coherence_less, dead_less, falls)

  pub second_by_coherence : (test : SpentTest) → is_there mid.coherence ≡ false
      → (only mid).job ≡ Coherence → gain.ended ≡ Spent test → unspent new < unspent mid
  second_by_coherence test none job is =
      let falls : undone (is_there new.coherence) < undone (is_there mid.coherence) =
      undone_falls (is_there mid.coherence) (is_there new.coherence) none
      (ap (λ (o : Option SpentTest). is_there o) coherence_is
      ∙ ap (λ (j : Job). is_there (spent_coherence mid.coherence j gain.ended)) job
      ∙ ap (λ (ended : RoundEnd). is_there (spent_coherence mid.coherence Coherence ended)) is) in
      omega (arith, fewer, wide_less, dead_less, falls)

  -- the test of a candidate that had none
  now_tested : (cand : ℕ) (test : SpentTest) → (only mid).job ≡ Single cand
      → gain.ended ≡ Spent test → IsUntested mid cand → is_open new.pair cand ≡ true
      → IsTested new cand
  now_tested cand test job is free stays =
      let has : OwnTest → Type 0 = λ one. one.cand ≡ cand in
      let one : OwnTest = record { cand = cand; test = test } in
      let spent : List OwnTest = spent_own mid.own (only mid).job gain.ended in
      let none : list_any (λ (other : OwnTest). nat_eq other.cand cand) mid.own ≡ false =
      not_so (list_any (λ (other : OwnTest). nat_eq other.cand cand) mid.own)
      (λ found. free.unspent (tested_was mid.own cand found)) in
      let spent_is : spent ≡ one ∷ [] =
      ap (λ (j : Job). spent_own mid.own j gain.ended) job
      ∙ ap (λ (ended : RoundEnd). spent_own mid.own (Single cand) ended) is
      ∙ ap (λ (b : Bool). cond b [] (one ∷ [])) none in
      let all : Any has (mid.own ++ spent) =
      subst (λ (xs : List OwnTest). Any has (mid.own ++ xs)) (sym spent_is)
      (at_end mid.own one) in
      subst (Any has) (sym (own_is mid new gain lines merge workers))
      (any_filtered has (λ (item : OwnTest). is_open new.pair item.cand)
      (λ item same. subst (λ n. is_open new.pair n ≡ true) (sym same) stays)
      (open_own mid.pair (mid.own ++ spent))
      (any_filtered has (λ (item : OwnTest). is_open mid.pair item.cand)
      (λ item same. subst (λ n. is_open mid.pair n ≡ true) (sym same)
      (is_open_of mid.normal.names mid.pair cand free.unsettled))
      (mid.own ++ spent) all))
    where
      at_end : (own : List OwnTest) (one : OwnTest)
          → Any (λ (item : OwnTest). item.cand ≡ one.cand) (own ++ one ∷ [])
      at_end [] one = (0, one, omega arith, refl, refl)
      at_end (first ∷ own) one =
          let (k, item, within, at, same) = at_end own one in
          (suc k, item, omega arith, at, same)

      tested_was : (own : List OwnTest) (cand : ℕ)
          → list_any (λ (item : OwnTest). nat_eq item.cand cand) own ≡ true
          → Any (λ (item : OwnTest). item.cand ≡ cand) own
      tested_was own cand found = tested_is own cand found

  pub second_by_own : (cand : ℕ) (test : SpentTest) → (only mid).job ≡ Single cand
      → gain.ended ≡ Spent test → IsUntested mid cand → unspent new < unspent mid
  second_by_own cand test job is free =
      let then : Bool = list_any (λ (one : OwnTest). nat_eq one.cand cand) mid.own in
      let now : Bool = list_any (λ (one : OwnTest). nat_eq one.cand cand) new.own in
      let was : is_left mid cand ≡ true =
      and_both (is_open mid.pair cand) (not then)
      (is_open_of mid.normal.names mid.pair cand free.unsettled)
      (true_not then (not_so then (λ found. free.unspent (tested_is mid.own cand found)))) in
      let gone : is_left new cand ≡ false =
      not_so (is_left new cand)
      (λ left. true≢false
      (sym (is_tested new.own cand
      (now_tested cand test job is free (and_left (is_open new.pair cand) (not now) left)))
      ∙ not_true now (and_right (is_open new.pair cand) (not now) left))) in
      let falls : count_by (is_left new) (all_of new) < count_by (is_left mid) (all_of mid) =
      left_falls mid new gain lines before sound is_true tells merge workers cand
      free.unsettled.candidate was gone in
      omega (arith, falls, coherence_less, wide_less, dead_less)

  -- ---- where a paused job can't go on, something was settled

  none_left : {X : Type 0} (p : X → Bool) (xs : List X) → list_all p xs ≡ false
      → Any (λ (x : X). p x ≡ false) xs
  none_left p [] is = absurd (true≢false is)
  none_left {X = X} p (x ∷ xs) is =
      by_first (λ rest. none_left p xs rest) (p x) refl
    where
      by_first : (list_all p xs ≡ false → Any (λ (y : X). p y ≡ false) xs) → (b : Bool) → p x ≡ b
          → Any (λ (y : X). p y ≡ false) (x ∷ xs)
      by_first below false here = (0, x, omega arith, refl, here)
      by_first below true here =
          let (k, y, within, at, fails) =
          below (sym (ap (λ (b : Bool). b && list_all p xs) here) ∙ is) in
          (suc k, y, omega arith, at, fails)

  some_settled : (cands : List ℕ) → All (IsOpenCandidate mid) cands
      → list_all (is_open new.pair) cands ≡ false → unsettled new < unsettled mid
  some_settled cands free is =
      let (k, cand, within, at, closed) = none_left (is_open new.pair) cands is in
      first_by_open mid new gain lines before sound is_true tells merge workers cand
      (subst (IsOpenCandidate mid) at (free k cand within)) closed

  pub first_by_stop : (job : Job) → IsOfUse mid job → can_go_on new job ≡ false
      → unsettled new < unsettled mid
  first_by_stop Idle asked is = absurd asked
  first_by_stop Coherence asked is =
      first_by_answer mid new gain lines before sound is_true tells merge workers asked
      (known new.answers is)
    where
      known : (n : ℕ) → nat_eq n 0 ≡ false → 1 ≤ n
      known zero is = absurd (true≢false is)
      known (suc n) is = omega arith
  first_by_stop (Single cand) asked is =
      first_by_open mid new gain lines before sound is_true tells merge workers cand
      asked.unsettled is
  first_by_stop (Reduce cands) asked is = some_settled cands asked is
  first_by_stop (Chunk cands) asked is = some_settled cands asked is
