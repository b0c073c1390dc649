-- What is left to do falls with each round.
use Rattle.std.proofs.Common.{◌≡◌, ◌≤◌, ◌<◌, ◌+◌, ◌-◌, ◌||◌, not, ℕ}
use Rattle.std.proofs.Common.{Bool, true, false, List, [], ◌∷◌, ◌++◌, length}
use Rattle.std.proofs.Common.{refl, sym, ap, subst, ◌∙◌, inl, inr, arith, true≢false}
use Rattle.std.proofs.Common.{nat_eq, eqb-true}
use Rattle.std.proofs.Common.{eq-eqb}
use Rattle.std.specs.Prelude.{All, Any, Contains, count_by}
use Rattle.std.specs.List.{list_any, range_with_len}
use Rattle.std.proofs.lemmas.List.Folds.{Any-from_list_any, list_any-from_Any}
use Rattle.std.proofs.lemmas.List.FromFn.{get_or-range_with_len, length-range_with_len}
use Rattle.std.proofs.lemmas.List.Sums.{count_by-le-length}
use Rattle.ground_program.specs.declared.program.Named.{Named}
use Rattle.ground_program.specs.Bounds.{IsCandidate}
use Rattle.normal_program.specs.declared.normal.Normal.{Normal}
use Rattle.report.specs.declared.lines.Line.{Line}
use Rattle.worker_jobs.specs.declared.job.Job.{Job}
use Rattle.worker_jobs.specs.declared.job.Job.TheVariants.{Idle, Coherence, Single, Reduce, Chunk}
use Rattle.worker_jobs.specs.declared.gain.Gain.{Gain}
use Rattle.worker_jobs.specs.Gain.{IsTrueGain, HasGained, SaysIncoherent, Answers}
use Rattle.master_record.specs.declared.own.OwnTest.{OwnTest}
use Rattle.master_record.specs.Course.{is_open}
use Rattle.master_record.specs.Books.{Books, IsOpenCandidate, open_own}
use Rattle.master_record.specs.Merging.{HasMerged, spent_own, says_incoherent}
use Rattle.master_record.specs.Sound.{IsSound}
use Rattle.master_record.specs.Told.{IsToldBy}
use Rattle.master_record.specs.Verdicts.{IsTested}
use Rattle.master_record.proofs.CourseLemmas.{and_left, and_right, and_both, not_true, true_not}
use Rattle.master_record.proofs.CourseLemmas.{not_so}
use Rattle.master_record.proofs.LeftLemmas.{any_filtered}
use Rattle.master_record.proofs.FoundLemmas.{is_open_of}
use Rattle.report.proofs.LegalLemmas.{Any-before}
use Rattle.query_run.specs.Agreed.{only}
use Rattle.query_run.specs.Progress.{all_of, undone, is_left, unsettled}
use Rattle.query_run.proofs.CountLemmas.{count_fewer, count_strict}
use Rattle.query_run.proofs.MergeLemmas.{was_open, gained_closed, now_answered}
use Rattle.query_run.proofs.JobLemmas.{IsOfUse}
use Rattle.query_run.proofs.AgreeLemmas.{own_is}

-- ---- truth values that are counted

-- what was done stays done
pub undone_less : (was now : Bool) → (was ≡ true → now ≡ true) → undone now ≤ undone was
undone_less true now stays = let is : undone now ≡ 0 = ap undone (stays refl) in omega (arith, is)
undone_less false true stays = omega arith
undone_less false false stays = omega arith

-- what wasn't done and is
pub undone_falls : (was now : Bool) → was ≡ false → now ≡ true → undone now < undone was
undone_falls was now none is =
    let one : undone was ≡ 1 = ap undone none in
    let no_more : undone now ≡ 0 = ap undone is in
    omega (arith, one, no_more)

pub undone_most : (b : Bool) → undone b ≤ 1
undone_most true = omega arith
undone_most false = omega arith

-- a candidate among all numbers
pub candidate_among : (names : List Named) (cand : ℕ) → IsCandidate names cand
    → Contains (range_with_len 1 (length names)) cand
candidate_among names cand candidate =
    let first : 1 ≤ cand = candidate.first in
    let last : cand ≤ length names = candidate.last in
    let place : cand - 1 < length names = omega arith in (
      cand - 1,
      omega (arith, place, length-range_with_len 1 (length names)),
      get_or-range_with_len 1 (length names) (cand - 1) cand place ∙ omega arith,
    )

-- whether a candidate has a test
pub tested_is : (own : List OwnTest) (cand : ℕ)
    → list_any (λ (one : OwnTest). nat_eq one.cand cand) own ≡ true
    → Any (λ (one : OwnTest). one.cand ≡ cand) own
tested_is own cand is =
    let (k, one, within, at, same) =
    Any-from_list_any (λ (item : OwnTest). nat_eq item.cand cand) own is in
    (k, one, within, at, eqb-true one.cand cand same)

pub is_tested : (own : List OwnTest) (cand : ℕ) → Any (λ (one : OwnTest). one.cand ≡ cand) own
    → list_any (λ (one : OwnTest). nat_eq one.cand cand) own ≡ true
is_tested own cand (k, one, within, at, same) =
    list_any-from_Any (λ (item : OwnTest). nat_eq item.cand cand) own
    (k, one, within, at, eq-eqb one.cand cand same)

-- ---- the first two numbers

module _ (mid new : Books) (gain : Gain) (lines before : List Line) (sound : IsSound mid)
    (is_true : IsTrueGain mid.normal mid.mode gain) (tells : IsToldBy before mid)
    (merge : HasMerged mid 1 gain lines new) (workers : mid.workers ≡ only mid ∷ []) where
  was : (cand : ℕ) → is_open new.pair cand ≡ true → is_open mid.pair cand ≡ true
  was cand is = was_open mid new gain lines before sound is_true tells merge cand is

  names_are : new.normal ≡ mid.normal
  names_are = ap (λ (b : Books). b.normal) merge.after

  all_are : all_of new ≡ all_of mid
  all_are = ap (λ (n : Normal). range_with_len 1 (length n.names)) names_are

  open_fewer : count_by (is_open new.pair) (all_of new) ≤ count_by (is_open mid.pair) (all_of mid)
  open_fewer =
      subst (λ (xs : List ℕ). count_by (is_open new.pair) xs ≤ count_by (is_open mid.pair) (all_of mid))
      (sym all_are)
      (count_fewer (is_open mid.pair) (is_open new.pair) was (all_of mid))

  -- one that is open and isn't any more
  open_falls : (cand : ℕ) → IsOpenCandidate mid cand → is_open new.pair cand ≡ false
      → count_by (is_open new.pair) (all_of new) < count_by (is_open mid.pair) (all_of mid)
  open_falls cand unsettled_cand now =
      subst (λ (xs : List ℕ). count_by (is_open new.pair) xs < count_by (is_open mid.pair) (all_of mid))
      (sym all_are)
      (count_strict (is_open mid.pair) (is_open new.pair) was (all_of mid) cand
      (candidate_among mid.normal.names cand unsettled_cand.candidate)
      (is_open_of mid.normal.names mid.pair cand unsettled_cand) now)

  answers_more : mid.answers ≤ new.answers
  answers_more =
      let more : new.answers ≡ mid.answers + length merge.answers =
      ap (λ (b : Books). b.answers) merge.after in
      omega (arith, more)

  known_stays : undone (not (nat_eq new.answers 0)) ≤ undone (not (nat_eq mid.answers 0))
  known_stays =
      undone_less (not (nat_eq mid.answers 0)) (not (nat_eq new.answers 0))
      (λ known. true_not (nat_eq new.answers 0)
      (not_so (nat_eq new.answers 0)
      (λ none.
      let now : new.answers ≡ 0 = eqb-true new.answers 0 none in
      let then : mid.answers ≡ 0 = omega (arith, now, answers_more) in
      true≢false (sym (eq-eqb mid.answers 0 then) ∙ not_true (nat_eq mid.answers 0) known))))

  incoherent_is : new.incoherent ≡ (mid.incoherent || says_incoherent gain.coherent)
  incoherent_is = ap (λ (b : Books). b.incoherent) merge.after

  or_left : (a b : Bool) → a ≡ true → (a || b) ≡ true
  or_left true b is = refl
  or_left false b is = absurd (true≢false (sym is))

  or_right : (a b : Bool) → b ≡ true → (a || b) ≡ true
  or_right true b is = refl
  or_right false b is = is

  incoherent_stays : undone new.incoherent ≤ undone mid.incoherent
  incoherent_stays =
      undone_less mid.incoherent new.incoherent
      (λ is. incoherent_is ∙ or_left mid.incoherent (says_incoherent gain.coherent) is)

  pub first_stays : unsettled new ≤ unsettled mid
  first_stays = omega (arith, open_fewer, known_stays, incoherent_stays)

  pub first_by_open : (cand : ℕ) → IsOpenCandidate mid cand → is_open new.pair cand ≡ false
      → unsettled new < unsettled mid
  first_by_open cand unsettled_cand now =
      omega (arith, open_falls cand unsettled_cand now, known_stays, incoherent_stays)

  pub first_by_answer : mid.answers ≡ 0 → 1 ≤ new.answers → unsettled new < unsettled mid
  first_by_answer none some =
      let falls : undone (not (nat_eq new.answers 0)) < undone (not (nat_eq mid.answers 0)) =
      undone_falls (not (nat_eq mid.answers 0)) (not (nat_eq new.answers 0))
      (ap not (eq-eqb mid.answers 0 none))
      (true_not (nat_eq new.answers 0) (not_so (nat_eq new.answers 0)
      (λ zero_answers. let now : new.answers ≡ 0 = eqb-true new.answers 0 zero_answers in
      omega (arith, now, some)))) in
      omega (arith, open_fewer, falls, incoherent_stays)

  pub first_by_none : mid.incoherent ≡ false → SaysIncoherent gain → unsettled new < unsettled mid
  first_by_none coherent says =
      let falls : undone new.incoherent < undone mid.incoherent =
      undone_falls mid.incoherent new.incoherent coherent
      (incoherent_is ∙ or_right mid.incoherent (says_incoherent gain.coherent)
      (ap says_incoherent says)) in
      omega (arith, open_fewer, known_stays, falls)

  by_some : (cands : List ℕ) → All (IsOpenCandidate mid) cands
      → Any (HasGained mid.normal.names mid.mode gain) cands → unsettled new < unsettled mid
  by_some cands free (k, cand, within, is, gained) =
      let there : IsOpenCandidate mid cand =
      subst (IsOpenCandidate mid) is (free k cand within) in
      first_by_open cand there
      (gained_closed mid new gain lines before sound is_true tells merge cand there gained)

  -- an answer to what was asked
  pub first_falls_done : (job : Job) → IsOfUse mid job → mid.incoherent ≡ false
      → Answers mid.normal.names mid.mode job gain → unsettled new < unsettled mid
  first_falls_done Idle asked coherent answer = absurd asked
  first_falls_done Coherence asked coherent (inl some) =
      first_by_answer asked
      (now_answered mid new gain lines before sound is_true tells merge asked some)
  first_falls_done Coherence asked coherent (inr says) = first_by_none coherent says
  first_falls_done (Single cand) asked coherent (inl gained) =
      first_by_open cand asked.unsettled
      (gained_closed mid new gain lines before sound is_true tells merge cand asked.unsettled gained)
  first_falls_done (Single cand) asked coherent (inr says) = first_by_none coherent says
  first_falls_done (Reduce cands) asked coherent (inl found) =
      by_some cands asked found
  first_falls_done (Reduce cands) asked coherent (inr says) = first_by_none coherent says
  first_falls_done (Chunk cands) asked coherent (inl found) =
      by_some cands asked found
  first_falls_done (Chunk cands) asked coherent (inr says) = first_by_none coherent says

  -- ---- own tests

  -- a candidate that is open and had a test has it
  tested_stays : (cand : ℕ) → is_open new.pair cand ≡ true → IsTested mid cand → IsTested new cand
  tested_stays cand is found =
      let has : OwnTest → Type 0 = λ one. one.cand ≡ cand in
      let spent : List OwnTest = spent_own mid.own (only mid).job gain.ended in
      subst (Any has) (sym (own_is mid new gain lines merge workers))
      (any_filtered has (λ (one : OwnTest). is_open new.pair one.cand)
      (λ one same. subst (λ n. is_open new.pair n ≡ true) (sym same) is)
      (open_own mid.pair (mid.own ++ spent))
      (any_filtered has (λ (one : OwnTest). is_open mid.pair one.cand)
      (λ one same. subst (λ n. is_open mid.pair n ≡ true) (sym same) (was cand is))
      (mid.own ++ spent) (Any-before has mid.own spent found)))

  left_was : (cand : ℕ) → is_left new cand ≡ true → is_left mid cand ≡ true
  left_was cand is =
      let now : Bool = list_any (λ (one : OwnTest). nat_eq one.cand cand) new.own in
      let then : Bool = list_any (λ (one : OwnTest). nat_eq one.cand cand) mid.own in
      let free : is_open new.pair cand ≡ true = and_left (is_open new.pair cand) (not now) is in
      and_both (is_open mid.pair cand) (not then) (was cand free)
      (true_not then (not_so then (λ found.
      true≢false (sym (is_tested new.own cand (tested_stays cand free (tested_is mid.own cand found)))
      ∙ not_true now (and_right (is_open new.pair cand) (not now) is)))))

  pub left_fewer : count_by (is_left new) (all_of new) ≤ count_by (is_left mid) (all_of mid)
  left_fewer =
      subst (λ (xs : List ℕ). count_by (is_left new) xs ≤ count_by (is_left mid) (all_of mid))
      (sym all_are) (count_fewer (is_left mid) (is_left new) left_was (all_of mid))

  pub left_falls : (cand : ℕ) → IsCandidate mid.normal.names cand → is_left mid cand ≡ true
      → is_left new cand ≡ false
      → count_by (is_left new) (all_of new) < count_by (is_left mid) (all_of mid)
  left_falls cand candidate then now =
      subst (λ (xs : List ℕ). count_by (is_left new) xs < count_by (is_left mid) (all_of mid))
      (sym all_are)
      (count_strict (is_left mid) (is_left new) left_was (all_of mid) cand
      (candidate_among mid.normal.names cand candidate) then now)

  pub left_most : count_by (is_left new) (all_of new) ≤ length new.normal.names
  left_most =
      omega (
        arith,
        count_by-le-length (is_left new) (all_of new),
        length-range_with_len 1 (length new.normal.names),
      )
