-- What is kept at the opening.
use Rattle.std.proofs.Common.{◌≡◌, ◌≢◌, ◌≤◌, ◌<◌, ◌+◌, ◌-◌, ◌^◌, ◌&&◌, not, ℕ, Bool, true, false}
use Rattle.std.proofs.Common.{List}
use Rattle.std.proofs.Common.{[], ◌∷◌, length, get_or, replicate, refl, sym, ap, subst, ◌∙◌, ⊎_elim}
use Rattle.std.proofs.Common.{arith, true≢false, vec_len, vec_capacity, lit<}
use Rattle.std.specs.Prelude.{All, AllPairs, Any, ◌↔◌, Vec}
use Rattle.std.specs.declared.alloc.Global.{Global}
use Rattle.std.proofs.lemmas.List.{get_or-replicate, length-replicate, get_or_past}
use Rattle.std.proofs.lemmas.Bool.{cases_lt}
use Rattle.ground_program.specs.declared.pair.Pair.{Pair}
use Rattle.ground_program.specs.declared.program.Mode.{Mode}
use Rattle.normal_program.specs.declared.normal.Normal.{Normal}
use Rattle.normal_program.specs.declared.spent.SpentTest.{SpentTest}
use Rattle.normal_program.specs.Limit.{IsNormal}
use Rattle.anytime_core.specs.Truth.{EnclosesN}
use Rattle.worker_jobs.specs.declared.job.Strategy.{Strategy}
use Rattle.worker_jobs.specs.Job.{IsJobOver}
use Rattle.master_record.specs.declared.own.OwnTest.{OwnTest}
use Rattle.master_record.specs.declared.worker.Worker.{Worker}
use Rattle.master_record.specs.Rounds.{newcomer}
use Rattle.master_record.specs.Books.{Books, opened, IsStrategy}
use Rattle.master_record.specs.Sound.{IsKept, IsLeftAt}

-- a pair that settles nothing
abbrev pub wide : ℕ → Pair
wide count = record { lower = replicate count false; upper = replicate count true }

-- it encloses the consequences
pub encloses_wide : (normal : Normal) (mode : Mode)
    → EnclosesN normal mode (wide (length normal.names))
encloses_wide normal mode = record {
  over = record {
    lower = length-replicate (length normal.names) false;
    upper = length-replicate (length normal.names) true;
  };
  lower = λ cand candidate has.
      let first : 1 ≤ cand = candidate.first in
      let last : cand ≤ length normal.names = candidate.last in
      let within : cand - 1 < length normal.names = omega arith in
      absurd (true≢false (sym has
      ∙ get_or-replicate (length normal.names) (cand - 1) false false within));
  upper = λ cand candidate holds.
      let first : 1 ≤ cand = candidate.first in
      let last : cand ≤ length normal.names = candidate.last in
      let within : cand - 1 < length normal.names = omega arith in
      get_or-replicate (length normal.names) (cand - 1) true false within;
}

-- every place is left
pub left_wide : (count place : ℕ) → IsLeftAt (wide count) [] (replicate count true) place
left_wide count place =
    ⊎_elim
    (λ within. (
      λ is. (
        ap (λ b. not b && get_or (replicate count true) place false)
            (get_or-replicate count place false false within)
            ∙ get_or-replicate count place true false within,
        λ (k, one, inside, same, holds). omega (arith, inside),
      ),
      λ both. get_or-replicate count place true false within,
    ))
    (λ past.
    let none : get_or (replicate count true) place false ≡ false =
    get_or_past (replicate count true) place false
    (subst (λ n. n ≤ place) (sym (length-replicate count true)) past) in
    let shut : get_or (replicate count false) place false ≡ false =
    get_or_past (replicate count false) place false
    (subst (λ n. n ≤ place) (sym (length-replicate count false)) past) in (
      λ is. absurd (true≢false (sym is ∙ none)),
      λ both. absurd (true≢false (sym both.0
          ∙ ap (λ b. not b && get_or (replicate count true) place false) shut ∙ none)),
    ))
    (cases_lt place count)

-- what is kept
pub kept_opened : (normal : Normal) (mode : Mode) (strategy : Strategy) (workers budget : ℕ)
    (own : Vec OwnTest Global) (room : Vec SpentTest Global) → IsNormal normal
    → IsStrategy strategy → 1 ≤ workers → workers ≤ 64 → own.items ≡ [] → vec_len own ≡ 0
    → room.items ≡ [] → vec_len room ≡ 0 → 1 ≤ vec_capacity room
    → IsKept (opened normal mode strategy workers budget) (replicate (length normal.names) true) own
    room
kept_opened normal mode strategy workers budget own room is chunks some few none no_own empty no_room
    space = record {
      sound = record {
        normal_form = is;
        some_worker = subst (λ n. 1 ≤ n) (sym (length-replicate workers newcomer)) some;
        few_workers = subst (λ n. n ≤ 64) (sym (length-replicate workers newcomer)) few;
        encloses = encloses_wide normal mode;
        answered = λ never. absurd (omega (arith, never));
        unanswerable = λ never. absurd (true≢false (sym never));
        coherence = tt;
        own = λ k d within. absurd (omega (arith, within));
        distinct = λ i j d before within. absurd (omega (arith, within));
        apart = λ i j d before within. absurd (omega (arith, within));
        strategy = chunks;
        jobs = λ k d within.
            subst (λ (worker : Worker). IsJobOver normal.names worker.job)
            (sym (get_or-replicate workers k newcomer d
            (subst (λ n. k < n) (length-replicate workers newcomer) within))) tt;
      };
      fits = lit< tt;
      count = length-replicate (length normal.names) true;
      left_is = λ place.
          subst (λ (xs : List OwnTest). IsLeftAt (wide (length normal.names)) xs
          (replicate (length normal.names) true) place) (sym none)
          (left_wide (length normal.names) place);
      numbered = subst (All (λ (one : OwnTest). 1 ≤ one.cand)) (sym none)
          (λ k d within. absurd (omega (arith, within)));
      distinct = subst (AllPairs (λ (earlier later : OwnTest). earlier.cand ≢ later.cand)) (sym none)
          (λ i j d before within. absurd (omega (arith, within)));
      empty = empty;
      none = no_room;
      has_room = omega (arith, no_own, space);
    }
