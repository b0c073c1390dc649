-- What a round leaves.
use Rattle.std.proofs.Common.{◌≡◌, ◌≢◌, ◌+◌, ◌-◌, ◌∙◌, ◌<◌, ℕ, Bool, true, false, List}
use Rattle.std.proofs.Common.{[]}
use Rattle.std.proofs.Common.{◌++◌, length, refl, sym, ap, subst, arith, inl, inr}
use Rattle.std.proofs.Common.{Some, None, Option, length-append}
use Rattle.std.specs.Prelude.{IfSome}
use Rattle.clause_store.specs.declared.literal.Lit.{Lit}
use Rattle.clause_store.specs.Counted.{Counted}
use Rattle.clause_store.specs.Entailment.{AreUnits}
use Rattle.clause_store.specs.History.{counted_clauses}
use Rattle.normal_program.specs.declared.normal.Normal.{Normal}
use Rattle.normal_program.specs.Clauses.{base_clauses}
use Rattle.assumption_engine.specs.Answer.{IsBelow, IsSliceOver}
use Rattle.coherence_test.specs.Selectors.{AreUsed}
use Rattle.coherence_test.specs.Testing.{Testing, opened}
use Rattle.coherence_test.proofs.CheckLemmas.{spent_within}
use Rattle.worker_jobs.specs.declared.job.Job.{Job}
use Rattle.worker_jobs.specs.declared.job.Job.TheVariants.{Idle, Coherence, Single, Reduce, Chunk}
use Rattle.worker_jobs.specs.declared.gain.Gain.{Gain}
use Rattle.worker_jobs.specs.declared.gain.RoundEnd.TheVariants.{Paused as Stopped}
use Rattle.worker_jobs.specs.Gain.{IsTrueGain}
use Rattle.worker_jobs.specs.Job.{test_literal}
use Rattle.worker_strategies.specs.declared.kept.Kept.{Kept}
use Rattle.worker_strategies.specs.declared.kept.Begun.{Begun}
use Rattle.worker_strategies.specs.declared.outcome.Outcome.{Outcome}
use Rattle.worker_strategies.specs.declared.outcome.Outcome.TheVariants.{Answered, Paused, Spent}
use Rattle.worker_strategies.specs.declared.outcome.Outcome.TheVariants.{SpentInside}
use Rattle.worker_strategies.specs.Disjunction.{disjunction_for, disjunction_of}
use Rattle.worker_strategies.specs.Outcome.{IsAnswer, IsAsking, IsOutcome, IsSpentSet}
use Rattle.worker_strategies.specs.Testing.{HasTested, IsFrontOf, IsTesterOf, IsTestOf, or_opened}
use Rattle.worker_strategies.specs.Rounds.{Begins, Desk, IsBegun, IsFirst, IsKeptTest, IsReady}
use Rattle.worker_strategies.specs.Rounds.{KeepsTesters, TakesUp, begin_of, kept_after, main_of}
use Rattle.worker_strategies.specs.Rounds.{gain_after, kept_test, spent_by}
use Rattle.worker_strategies.specs.Rounds.{spent_end, tester_for, working}
use Rattle.worker_strategies.specs.Laws.{IsRound}
use Rattle.worker_strategies.specs.Working.{BeginsWith, EndsBy, HasRounded, IsDone, IsPaused}
use Rattle.worker_strategies.specs.Working.{Working}
use Rattle.worker_strategies.proofs.GainLemmas.{nothing_is_true}
use Rattle.worker_strategies.proofs.SpentLemmas.{coherence_grounded, plain_spent, test_among}
use Rattle.worker_strategies.proofs.SpentLemmas.{test_are, wide_spent}
use Rattle.worker_strategies.proofs.TestLemmas.{front_itself, front_then, take_front}
use Rattle.worker_strategies.proofs.TestLemmas.{tested_front, tested_then}

-- ---- testers

-- one that was opened
pub opened_is : (normal : Normal) → IsTesterOf normal (opened normal)
opened_is normal =
    record { same = refl; alive = refl; base = front_itself (base_clauses normal) }

pub opened_first : (normal : Normal) → IsFirst normal (opened normal)
opened_first normal = record { of = opened_is normal; plain = refl }

-- one that is there, or one that was opened
or_opened_first : (normal : Normal) (first : Option Testing) → IfSome first (IsFirst normal)
    → IsFirst normal (or_opened normal first)
or_opened_first normal None is = opened_first normal
or_opened_first normal (Some tester) is = is

pub tester_first : (desk : Desk) (goes_on : Bool) → IfSome desk.first (IsFirst desk.normal)
    → IsFirst desk.normal (tester_for desk Coherence goes_on)
tester_first desk true is = or_opened_first desk.normal desk.first is
tester_first desk false is = opened_first desk.normal

-- a tester of the normal form stays one
tested_is : (normal : Normal) (any : Option (List Lit)) (old new : Testing)
    (before after : Counted) → IsTesterOf normal old → HasTested any old new before after
    → IsTesterOf normal new
tested_is normal any old new before after is tested =
    record {
      same = tested.same ∙ is.same;
      alive = tested.alive;
      base =
          front_then (base_clauses normal) old.clauses new.clauses is.base
          (tested_front any old new before after tested);
    }

-- so does one of coherence
tested_first : (normal : Normal) (old new : Testing) (before after : Counted)
    → IsFirst normal old → HasTested None old new before after → IsFirst normal new
tested_first normal old new before after is tested =
    record {
      of = tested_is normal None old new before after is.of tested;
      plain = tested.uses ∙ is.plain;
    }

if_some : {X : Type 0} (P : X → Type 0) (o : Option X) → ((x : X) → o ≡ Some x → P x)
    → IfSome o P
if_some P None each = tt
if_some P (Some x) each = each x refl

-- what is true of the kept test is true of what contracts see of it
other_kept : (job : Job) (kept : Option Kept) → IfSome kept (λ it. it.job ≢ job)
    → IfSome (kept_test kept) (λ it. it.job ≢ job)
other_kept job None other = tt
other_kept job (Some kept) other = other

-- ---- the beginning of a round

module _ (old : Desk) (ready : IsReady old) (job : Job) (began : List (List Lit)) (begun : Begun)
    (is : IsBegun old job began begun) where
  abbrev mid : Desk
  mid = record old { kept = None; began = began }

  -- the kept test, where it goes on
  kept_is : TakesUp old job began begun
      → IsKeptTest old (record { job = job; budget = begun.budget })
  kept_is takes = subst (λ it. IfSome it (IsKeptTest old)) takes.kept ready.keeps

  pub begun_limit : begun.budget.limit ≡ old.budget
  begun_limit =
      elim is [
        | inl takes ↦ (kept_is takes).limit
        | inr begins ↦ ap (λ it. it.limit) begins.fresh
      ]

  pub begun_unused : length begun.budget.units < begun.budget.limit
  begun_unused =
      elim is [
        | inl takes ↦
            let below = (kept_is takes).below in
            let limit = (kept_is takes).limit in
            omega (arith, below, limit)
        | inr begins ↦
            let units = ap (λ it. length it.units) begins.fresh in
            let limit = begun_limit in
            let some = ready.some in
            omega (arith, units, limit, some)
      ]

  -- the clauses with which the present test began
  began_base : IsFrontOf (base_clauses old.normal) began
  began_base =
      elim is [
        | inl takes ↦
            subst (IsFrontOf (base_clauses old.normal)) (sym takes.began) ready.base
        | inr begins ↦
            subst (IsFrontOf (base_clauses old.normal)) (sym begins.began) ready.is_main.base
      ]

  began_front : IsFrontOf began (main_of old).clauses
  began_front =
      elim is [
        | inl takes ↦
            subst (λ all. IsFrontOf all (main_of old).clauses) (sym takes.began) ready.front
        | inr begins ↦
            subst (λ all. IsFrontOf all (main_of old).clauses) (sym begins.began)
            (front_itself (main_of old).clauses)
      ]

  pub mid_ready : IsReady mid
  mid_ready =
      record {
        is_normal = ready.is_normal;
        some = ready.some;
        complete = ready.complete;
        is_main = ready.is_main;
        is_first = ready.is_first;
        base = began_base;
        front = began_front;
        keeps = tt;
      }

  -- where a test begins, its tester has the clauses with which it does
  starts_at : began ≡ (main_of old).clauses → (job : Job)
      → (tester_for mid job false).clauses ≡ begin_of mid job
  starts_at same Idle = sym same
  starts_at same Coherence = refl
  starts_at same (Single cand) = sym same
  starts_at same (Reduce cands) = sym same
  starts_at same (Chunk cands) = sym same

  begin_same : began ≡ old.began → (job : Job) → begin_of old job ≡ begin_of mid job
  begin_same same Idle = sym same
  begin_same same Coherence = refl
  begin_same same (Single cand) = sym same
  begin_same same (Reduce cands) = sym same
  begin_same same (Chunk cands) = sym same

  tester_same : (job : Job) (goes_on : Bool)
      → tester_for old job goes_on ≡ tester_for mid job goes_on
  tester_same Idle goes_on = refl
  tester_same Coherence goes_on = refl
  tester_same (Single cand) goes_on = refl
  tester_same (Reduce cands) goes_on = refl
  tester_same (Chunk cands) goes_on = refl

  -- the tester of the round is one of the normal form
  tester_of : (job : Job) (goes_on : Bool) → IsTesterOf old.normal (tester_for mid job goes_on)
  tester_of Idle goes_on = ready.is_main
  tester_of Coherence goes_on = (tester_first mid goes_on ready.is_first).of
  tester_of (Single cand) goes_on = ready.is_main
  tester_of (Reduce cands) goes_on = ready.is_main
  tester_of (Chunk cands) goes_on = ready.is_main

  -- ---- the test

  module _ (main first : Option Testing) (after : Counted)
      (keeps : KeepsTesters mid job (record mid { main = main; first = first }))
      (tested : HasTested (disjunction_for old.normal.names old.mode job)
      (tester_for mid job begun.goes_on)
      (tester_for (record mid { main = main; first = first }) job true) begun.budget after) where
    abbrev new : Desk
    new = record mid { main = main; first = first }

    abbrev any_of : Option (List Lit)
    any_of = disjunction_for old.normal.names old.mode job

    new_begin : (job : Job) → begin_of mid job ≡ begin_of new job
    new_begin Idle = refl
    new_begin Coherence = refl
    new_begin (Single cand) = refl
    new_begin (Reduce cands) = refl
    new_begin (Chunk cands) = refl

    -- the limit stays
    pub after_limit : after.limit ≡ old.budget
    after_limit = ap (λ it. it.limit) tested.added.counts ∙ begun_limit

    -- the test of the job, with all that it counted
    pub new_test : IsTestOf old.normal any_of (begin_of new job) (tester_for new job true) after
    new_test =
        elim is [
          | inl takes ↦ goes_on takes
          | inr begins ↦ begins_now begins
        ]
      where
        goes_on : TakesUp old job began begun
            → IsTestOf old.normal any_of (begin_of new job) (tester_for new job true) after
        goes_on takes =
            let kept = (kept_is takes).test in
            record {
              start = kept.start;
              of = kept.of;
              clauses = kept.clauses ∙ begin_same takes.began job ∙ new_begin job;
              tested =
                  subst
                  (λ limit. HasTested any_of kept.start (tester_for new job true)
                  (record { limit = limit; units = [] }) after)
                  (sym (ap (λ it. it.limit) tested.added.counts))
                  (tested_then any_of kept.start (tester_for old job true)
                  (tester_for new job true) (record { limit = begun.budget.limit; units = [] })
                  begun.budget after kept.tested
                  (subst
                  (λ it. HasTested any_of it (tester_for new job true) begun.budget after)
                  (ap (λ on. tester_for mid job on) takes.goes ∙ sym (tester_same job true))
                  tested));
            }

        begins_now : Begins old job began begun
            → IsTestOf old.normal any_of (begin_of new job) (tester_for new job true) after
        begins_now begins =
            let start = tester_for mid job false in
            let here : HasTested any_of start (tester_for new job true) begun.budget after =
            subst (λ on. HasTested any_of (tester_for mid job on) (tester_for new job true)
            begun.budget after) begins.goes tested in
            record {
              start = start;
              of = (tester_of job false).same;
              clauses = starts_at begins.began job ∙ new_begin job;
              tested =
                  subst
                  (λ limit. HasTested any_of start (tester_for new job true)
                  (record { limit = limit; units = [] }) after)
                  (ap (λ it. it.limit) (sym begins.fresh)
                  ∙ sym (ap (λ it. it.limit) tested.added.counts))
                  (subst (λ before. HasTested any_of start (tester_for new job true) before after)
                  begins.fresh here);
            }

    -- ---- the testers after it

    new_main : (job : Job) → KeepsTesters mid job new
        → HasTested (disjunction_for old.normal.names old.mode job)
        (tester_for mid job begun.goes_on) (tester_for new job true) begun.budget after
        → IsTesterOf old.normal (main_of new)
        × IsFrontOf (main_of old).clauses (main_of new).clauses
    new_main Idle kept done = (
      tested_is old.normal None (main_of old) (main_of new) begun.budget after ready.is_main done,
      tested_front None (main_of old) (main_of new) begun.budget after done,
    )
    new_main Coherence kept done =
        subst
        (λ it. IsTesterOf old.normal (or_opened old.normal it)
        × IsFrontOf (main_of old).clauses (or_opened old.normal it).clauses)
        (sym (kept.main refl)) (ready.is_main, front_itself (main_of old).clauses)
    new_main (Single cand) kept done = (
      tested_is old.normal None (main_of old) (main_of new) begun.budget after ready.is_main done,
      tested_front None (main_of old) (main_of new) begun.budget after done,
    )
    new_main (Reduce cands) kept done =
        let any = disjunction_for old.normal.names old.mode (Reduce cands) in (
          tested_is old.normal any (main_of old) (main_of new) begun.budget after ready.is_main
              done,
          tested_front any (main_of old) (main_of new) begun.budget after done,
        )
    new_main (Chunk cands) kept done = (
      tested_is old.normal None (main_of old) (main_of new) begun.budget after ready.is_main done,
      tested_front None (main_of old) (main_of new) begun.budget after done,
    )

    first_kept : (job : Job) → job ≢ Coherence → KeepsTesters mid job new
        → IfSome first (IsFirst old.normal)
    first_kept job other kept =
        elim (kept.first other) [
          | inl none ↦ subst (λ it. IfSome it (IsFirst old.normal)) (sym none) tt
          | inr same ↦ subst (λ it. IfSome it (IsFirst old.normal)) (sym same) ready.is_first
        ]

    new_first : (job : Job) → KeepsTesters mid job new
        → HasTested (disjunction_for old.normal.names old.mode job)
        (tester_for mid job begun.goes_on) (tester_for new job true) begun.budget after
        → IfSome first (IsFirst old.normal)
    new_first Idle kept done = first_kept Idle (λ same. let e = same in cc) kept
    new_first Coherence kept done =
        if_some (IsFirst old.normal) first
        (λ tester some.
        tested_first old.normal (tester_for mid Coherence begun.goes_on) tester begun.budget after
        (tester_first mid begun.goes_on ready.is_first)
        (subst
        (λ it. HasTested None (tester_for mid Coherence begun.goes_on) (or_opened old.normal it)
        begun.budget after) some done))
    new_first (Single cand) kept done =
        first_kept (Single cand) (λ same. let e = same in cc) kept
    new_first (Reduce cands) kept done =
        first_kept (Reduce cands) (λ same. let e = same in cc) kept
    new_first (Chunk cands) kept done =
        first_kept (Chunk cands) (λ same. let e = same in cc) kept

    -- ---- the end

    -- what is left after it
    abbrev last : ℕ → Outcome → Desk
    last count outcome = record new { kept = kept_after job after outcome; counted = count }

    last_test : (count : ℕ) (outcome : Outcome) (job : Job)
        → IsTestOf old.normal (disjunction_for old.normal.names old.mode job)
        (begin_of new job) (tester_for new job true) after
        → IsTestOf old.normal (disjunction_for old.normal.names old.mode job)
        (begin_of (last count outcome) job) (tester_for (last count outcome) job true) after
    last_test count outcome Idle is = is
    last_test count outcome Coherence is = is
    last_test count outcome (Single cand) is = is
    last_test count outcome (Reduce cands) is = is
    last_test count outcome (Chunk cands) is = is

    last_keeps : (count stop : ℕ) (outcome : Outcome)
        → IsOutcome old.normal old.mode job stop after outcome
        → IfSome (kept_after job after outcome) (IsKeptTest (last count outcome))
    last_keeps count stop (Answered gain) is = tt
    last_keeps count stop Paused is =
        let below = is.1.limit in
        let limit = after_limit in
        record {
          limit = after_limit;
          below = omega (arith, below, limit);
          test = last_test count Paused job new_test;
        }
    last_keeps count stop Spent is = tt
    last_keeps count stop (SpentInside set units) is = tt

    pub last_ready : (count stop : ℕ) (outcome : Outcome)
        → IsOutcome old.normal old.mode job stop after outcome → IsReady (last count outcome)
    last_ready count stop outcome is =
        let mains = new_main job keeps tested in
        record {
          is_normal = ready.is_normal;
          some = ready.some;
          complete = ready.complete;
          is_main = mains.0;
          is_first = new_first job keeps tested;
          base = began_base;
          front =
              front_then began (main_of old).clauses (main_of new).clauses began_front mains.1;
          keeps = last_keeps count stop outcome is;
        }

    -- ---- what the round says

    abbrev before : Working
    before = working old false

    begins_with : (now : Working) → now.began ≡ length began
        → BeginsWith before job begun.budget.units now
    begins_with now here =
        elim is [
          | inl takes ↦
              inl (record {
                kept = ap kept_test takes.kept;
                began = here ∙ ap (λ all. length all) takes.began;
              })
          | inr begins ↦
              inr (record {
                other = other_kept job old.kept begins.other;
                none = ap (λ it. it.units) begins.fresh;
                began = here ∙ ap (λ all. length all) begins.began;
              })
        ]

    uses_of : (job : Job) → KeepsTesters mid job new
        → HasTested (disjunction_for old.normal.names old.mode job)
        (tester_for mid job begun.goes_on) (tester_for new job true) begun.budget after
        → AreUsed (main_of old).disjunctions (disjunction_for old.normal.names old.mode job)
        (main_of new).disjunctions
    uses_of Idle kept done = done.uses
    uses_of Coherence kept done =
        ap (λ it. (or_opened old.normal it).disjunctions) (kept.main refl)
    uses_of (Single cand) kept done = done.uses
    uses_of (Reduce cands) kept done = done.uses
    uses_of (Chunk cands) kept done = done.uses

    -- how many were counted
    abbrev fresh_units : List (List Lit)
    fresh_units = counted_clauses tested.added.added

    units_are : after.units ≡ begun.budget.units ++ fresh_units
    units_are = ap (λ it. it.units) tested.added.counts

    sizes_are : length after.units ≡ length begun.budget.units + length fresh_units
    sizes_are =
        ap (λ units. length units) units_are ∙ length-append begun.budget.units fresh_units

    -- a test that has a disjunction or none began with the base clauses
    begin_base : (job : Job) → IsFrontOf (base_clauses old.normal) (begin_of new job)
    begin_base Idle = began_base
    begin_base Coherence = front_itself (base_clauses old.normal)
    begin_base (Single cand) = began_base
    begin_base (Reduce cands) = began_base
    begin_base (Chunk cands) = began_base

    -- a tester of coherence has no disjunction
    first_plain : HasTested None (tester_for mid Coherence begun.goes_on)
        (tester_for new Coherence true) begun.budget after
        → (tester_for new Coherence true).disjunctions ≡ []
    first_plain done = done.uses ∙ (tester_first mid begun.goes_on ready.is_first).plain

    module _ (count slice : ℕ) (gain : Gain)
        (count_is : count ≡ length after.units - length begun.budget.units) where
      abbrev stop : ℕ
      stop = length begun.budget.units + slice

      abbrev ended : Desk
      ended = record new { kept = None; counted = count }

      done_is : IsAnswer old.normal old.mode job gain → IsBelow stop after
          → IsDone before job slice (working ended false) gain
      done_is answer below =
          let at_stop = below.before_stop in
          let sizes = sizes_are in
          record {
            answers = answer.answers;
            nothing = refl;
            counted = omega (arith, at_stop, sizes, count_is);
          }

      paused_is : IsSliceOver stop after
          → IsPaused before job slice (working (last count Paused) false)
      paused_is over =
          let at_stop = over.at_stop in
          let limit = over.limit in
          let sizes = sizes_are in
          let whole = after_limit in
          record {
            before = begun.budget.units;
            units = fresh_units;
            begins = begins_with (working (last count Paused) false) refl;
            kept = ap (λ units. Some (record { job = job; units = units })) units_are;
            counted = omega (arith, at_stop, sizes, count_is);
            all = omega (arith, at_stop, sizes);
            below = omega (arith, limit, sizes, whole);
          }

      -- how it ends where the test is spent
      spent_is : (job : Job) → IsAsking job
          → IsTestOf old.normal (disjunction_for old.normal.names old.mode job)
          (begin_of new job) (tester_for new job true) after
          → HasTested (disjunction_for old.normal.names old.mode job)
          (tester_for mid job begun.goes_on) (tester_for new job true) begun.budget after
          → length after.units ≡ old.budget
          → EndsBy before job slice (working ended false) gain
          (spent_end ended job after.units None)
      spent_is Idle asks test done all = absurd asks
      spent_is Coherence asks test done all =
          record {
            spent =
                record {
                  spent =
                      record {
                        marked = record { by = refl; budget = refl; literal = refl };
                        spent =
                            plain_spent old.normal (base_clauses old.normal)
                            (tester_for new Coherence true) after test (begin_base Coherence) None
                            old.number old.budget all;
                      };
                  grounded =
                      coherence_grounded old.normal (tester_for new Coherence true) after test
                      (first_plain done);
                };
            own = tt;
            nothing = refl;
          }
      spent_is (Single cand) asks test done all =
          record {
            spent =
                record {
                  marked = record { by = refl; budget = refl; literal = refl };
                  spent =
                      plain_spent old.normal began (main_of new) after test began_base
                      (Some (test_literal old.normal.names old.mode cand)) old.number old.budget
                      all;
                };
            own =
                record {
                  are =
                      subst (λ all. AreUnits all after.units)
                      (sym (take_front began (main_of new).clauses
                      (front_then began (main_of old).clauses (main_of new).clauses began_front
                      (tested_front None (main_of old) (main_of new) begun.budget after done))))
                      (test_are old.normal None began (main_of new) after test began_base);
                  among = test_among old.normal None began (main_of new) after test began_base;
                };
            nothing = refl;
          }
      spent_is (Reduce cands) asks test done all =
          record {
            spent =
                record {
                  marked = record { by = refl; budget = refl; literal = refl };
                  spent =
                      wide_spent old.normal
                      (disjunction_of old.normal.names old.mode cands) began (main_of new) after
                      test began_base old.number old.budget all;
                };
            nothing = refl;
          }
      spent_is (Chunk cands) asks test done all =
          record {
            spent =
                record {
                  marked = record { by = refl; budget = refl; literal = refl };
                  spent =
                      plain_spent old.normal began (main_of new) after test began_base None
                      old.number old.budget all;
                };
            nothing = refl;
          }

      -- and where the test whether a set is minimal is
      inside_is : (job : Job) (set : List Bool) (units : List (List Lit)) → IsAsking job
          → IsSpentSet old.normal old.mode job old.budget set units
          → EndsBy before job slice (working ended false) gain
          (spent_end ended job units (Some set))
      inside_is Idle set units asks is = absurd asks
      inside_is Coherence set units asks is =
          record {
            spent =
                record {
                  spent =
                      record {
                        marked = record { by = refl; budget = refl; literal = refl };
                        spent =
                            spent_within old.normal set (spent_by ended Coherence units (Some set))
                            is.within refl is.all is.literal;
                      };
                  grounded = tt;
                };
            own = tt;
            nothing = refl;
          }
      inside_is (Single cand) set units asks is =
          record {
            spent =
                record {
                  marked = record { by = refl; budget = refl; literal = refl };
                  spent =
                      spent_within old.normal set (spent_by ended (Single cand) units (Some set))
                      is.within refl is.all is.literal;
                };
            own = tt;
            nothing = refl;
          }
      inside_is (Reduce cands) set units asks is =
          record {
            spent =
                record {
                  marked = record { by = refl; budget = refl; literal = refl };
                  spent =
                      spent_within old.normal set (spent_by ended (Reduce cands) units (Some set))
                      is.within refl is.all is.literal;
                };
            nothing = refl;
          }
      inside_is (Chunk cands) set units asks is =
          record {
            spent =
                record {
                  marked = record { by = refl; budget = refl; literal = refl };
                  spent =
                      spent_within old.normal set (spent_by ended (Chunk cands) units (Some set))
                      is.within refl is.all is.literal;
                };
            nothing = refl;
          }

    -- how a round ends
    abbrev gained : ℕ → Outcome → Gain
    gained count outcome =
        gain_after (record new { kept = None; counted = count }) job after outcome

    ends_by : (count slice : ℕ) (outcome : Outcome)
        → count ≡ length after.units - length begun.budget.units
        → IsOutcome old.normal old.mode job (length begun.budget.units + slice) after outcome
        → EndsBy before job slice (working (last count outcome) false) (gained count outcome)
        (gained count outcome).ended
    ends_by count slice (Answered gain) count_is is =
        subst
        (EndsBy before job slice (working (last count (Answered gain)) false) gain)
        (sym is.0.done) (done_is count slice gain count_is is.0 is.1)
    ends_by count slice Paused count_is is =
        paused_is count slice (gained count Paused) count_is is.1
    ends_by count slice Spent count_is is =
        spent_is count slice (gained count Spent) count_is job is.0 new_test tested
        (is.1 ∙ after_limit)
    ends_by count slice (SpentInside set units) count_is is =
        inside_is count slice (gained count (SpentInside set units)) count_is job set units is.0
        (subst (λ limit. IsSpentSet old.normal old.mode job limit set units) after_limit is.1)

    pub has_rounded : (count slice : ℕ) (outcome : Outcome)
        → count ≡ length after.units - length begun.budget.units
        → IsOutcome old.normal old.mode job (length begun.budget.units + slice) after outcome
        → HasRounded before job slice (working (last count outcome) false) (gained count outcome)
    has_rounded count slice outcome count_is is =
        record {
          same = record { normal = refl; mode = refl; number = refl; budget = refl };
          grows = (new_main job keeps tested).1;
          uses = uses_of job keeps tested;
          begins =
              (begun.budget.units, begins_with (working (last count outcome) false) refl);
          ends = ends_by count slice outcome count_is is;
        }

    -- what was gained is true
    pub gained_is_true : (count most : ℕ) (outcome : Outcome)
        → IsOutcome old.normal old.mode job most after outcome
        → IsTrueGain old.normal old.mode (gained count outcome)
    gained_is_true count most (Answered gain) is = is.0.is_true
    gained_is_true count most Paused is = nothing_is_true old.normal old.mode Stopped
    gained_is_true count most Spent is =
        nothing_is_true old.normal old.mode
        (spent_end (record new { kept = None; counted = count }) job after.units None)
    gained_is_true count most (SpentInside set units) is =
        nothing_is_true old.normal old.mode
        (spent_end (record new { kept = None; counted = count }) job units (Some set))

-- ---- a round, by what each of its steps says of the desk

-- where the steps are written out
round_at : (old : Desk) (job : Job) (began : List (List Lit)) (begun : Begun)
    (main first : Option Testing) (after : Counted) (outcome : Outcome) (slice count : ℕ)
    (last : Desk) (gain : Gain) → IsReady old → IsBegun old job began begun
    → KeepsTesters (record old { kept = None; began = began }) job
    (record old { kept = None; began = began; main = main; first = first })
    → HasTested (disjunction_for old.normal.names old.mode job)
    (tester_for (record old { kept = None; began = began }) job begun.goes_on)
    (tester_for (record old { kept = None; began = began; main = main; first = first }) job true)
    begun.budget after
    → IsOutcome old.normal old.mode job (length begun.budget.units + slice) after outcome
    → count ≡ length after.units - length begun.budget.units
    → last
    ≡ record old {
      kept = kept_after job after outcome;
      began = began;
      main = main;
      first = first;
      counted = count;
    }
    → gain
    ≡ gain_after
    (record old { kept = None; began = began; main = main; first = first; counted = count }) job
    after outcome
    → IsRound old last job slice gain
round_at old job began begun main first after outcome slice count last gain ready is keeps tested
    comes count_is last_is gain_is =
    subst (λ it. IsRound old it job slice gain) (sym last_is)
    (subst
    (IsRound old
    (record old {
      kept = kept_after job after outcome;
      began = began;
      main = main;
      first = first;
      counted = count;
    }) job slice)
    (sym gain_is)
    (record {
      is_ready =
          last_ready old ready job began begun is main first after keeps tested count
          (length begun.budget.units + slice) outcome comes;
      is_true =
          gained_is_true old ready job began begun is main first after keeps tested count
          (length begun.budget.units + slice) outcome comes;
      round =
          has_rounded old ready job began begun is main first after keeps tested count slice
          outcome count_is comes;
    }))

pub round_is : (old mid there counted last : Desk) (job : Job) (begun : Begun) (after : Counted)
    (outcome : Outcome) (slice : ℕ) (gain : Gain) → IsReady old
    → IsBegun old job mid.began begun → mid ≡ record old { kept = None; began = mid.began }
    → KeepsTesters mid job there
    → HasTested (disjunction_for mid.normal.names mid.mode job)
    (tester_for mid job begun.goes_on) (tester_for there job true) begun.budget after
    → IsOutcome mid.normal mid.mode job (length begun.budget.units + slice) after outcome
    → counted
    ≡ record there { counted = length after.units - length begun.budget.units }
    → last ≡ record counted { kept = kept_after job after outcome }
    → gain ≡ gain_after counted job after outcome → IsRound old last job slice gain
round_is old mid there counted last job begun after outcome slice gain ready is begins keeps
    tested comes count_is last_is gain_is =
    let main = there.main in
    let first = there.first in
    let count = length after.units - length begun.budget.units in
    let kept_here =
    subst (λ it. KeepsTesters it job (record it { main = main; first = first })) begins
    (subst (KeepsTesters mid job) keeps.same keeps) in
    let tested_here =
    subst
    (λ it. HasTested (disjunction_for it.normal.names it.mode job)
    (tester_for it job begun.goes_on)
    (tester_for (record it { main = main; first = first }) job true) begun.budget after) begins
    (subst
    (λ it. HasTested (disjunction_for mid.normal.names mid.mode job)
    (tester_for mid job begun.goes_on) (tester_for it job true) begun.budget after)
    keeps.same tested) in
    let counted_is =
    count_is ∙ ap (λ (it : Desk). record it { counted = count }) keeps.same
    ∙ ap (λ (it : Desk). record it { main = main; first = first; counted = count }) begins in
    round_at old job mid.began begun main first after outcome slice count last gain ready is
    kept_here tested_here
    (subst
    (λ it. IsOutcome it.normal it.mode job (length begun.budget.units + slice) after outcome)
    begins comes)
    refl
    (last_is ∙ ap (λ (it : Desk). record it { kept = kept_after job after outcome }) counted_is)
    (gain_is ∙ ap (λ it. gain_after it job after outcome) counted_is)
