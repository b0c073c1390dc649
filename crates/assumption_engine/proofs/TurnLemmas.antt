-- What turns come to, and that there are only so many.
use Rattle.std.proofs.Common.{◌≡◌, ℕ, ◌<◌, ◌≤◌, ◌+◌, ◌-◌, ◌*◌, ◌^◌, List, length, sym, ap, ◌∙◌}
use Rattle.std.proofs.Common.{subst, inl, inr, arith, ◌++◌, length-append}
use Rattle.std.specs.Prelude.{All, Contains}
use Rattle.std.proofs.Math.Nat.{mul-le-mul_right}
use Rattle.std.proofs.lemmas.List.Elements.{All-contains_itself, All-weaker}
use Rattle.std.proofs.lemmas.List.Elements.{Contains-append_right}
use Rattle.clause_store.specs.declared.literal.Lit.{Lit}
use Rattle.clause_store.specs.Clause.{AreOver, IsOver}
use Rattle.clause_store.specs.History.{added_clauses}
use Rattle.clause_store.proofs.LiteralLemmas.{all_through}
use Rattle.clause_store.proofs.lemmas.Units.RowLemmas.{units_are_few}
use Rattle.clause_store.specs.Counted.{Counted}
use Rattle.clause_store.specs.Entailment.{Absorbs, IsUnit}
use Rattle.clause_store.specs.Trail.{Assigned, IsTrail, values_of}
use Rattle.propagator.specs.Fixpoint.{IsFixpoint}
use Rattle.propagator.proofs.ClosureLemmas.{fixpoint_absorbs_no_unit}
use Rattle.propagator.proofs.FalseLemmas.{fixpoint_absorbs_no_false}
use Rattle.conflict_learning.specs.declared.learned.Learned.{Learned}
use Rattle.assumption_engine.specs.Theory.{IsFalseOrForces, IsGiven, Meaning, MeansTheSame}
use Rattle.assumption_engine.specs.Down.{IsDown}
use Rattle.assumption_engine.specs.Engine.{GoesOn, HasPropagated, Taught}
use Rattle.assumption_engine.specs.Answer.{HasEnded, HasGiven, HasTaken, IsAnswer, IsBelow}
use Rattle.assumption_engine.specs.Answer.{IsCountedRight, IsStop}
use Rattle.assumption_engine.specs.Answer.{IsEmptyCore, IsStopped, IsTurn}
use Rattle.assumption_engine.specs.Progress.{IsNearer, weight}
use Rattle.assumption_engine.specs.declared.answer.Answer.{Answer}
use Rattle.assumption_engine.specs.declared.answer.Answer.TheVariants.{Model, Core, Spent}
use Rattle.assumption_engine.specs.declared.answer.Answer.TheVariants.{SpentInside, Paused}
use Rattle.assumption_engine.specs.declared.answer.Answer.TheVariants.{NoMemory}
use Rattle.assumption_engine.specs.declared.answer.Turn.{Turn}
use Rattle.assumption_engine.specs.declared.answer.Turn.TheVariants.{Going, Ended}
use Rattle.search_state.specs.State.{Searched}
use Rattle.assumption_engine.proofs.ProgressLemmas.{weight_within}
use Rattle.assumption_engine.proofs.SameLemmas.{model_back, model_same}
use Rattle.assumption_engine.proofs.DownLemmas.{weighs_more}

-- an answer that came for having counted
ended_stopped : (meaning : Meaning) (defined : List (List Lit)) (assumed : List Lit) (stop : ℕ)
    (new : Searched) (after : Counted) (answer : Answer) → IsStopped stop after answer
    → HasEnded meaning defined assumed stop new after answer
ended_stopped meaning defined assumed stop new after Model is = absurd is
ended_stopped meaning defined assumed stop new after (Core core) is = absurd is
ended_stopped meaning defined assumed stop new after Spent is =
    record { says = tt; counted = is }
ended_stopped meaning defined assumed stop new after (SpentInside set units) is = absurd is
ended_stopped meaning defined assumed stop new after Paused is =
    record { says = tt; counted = is }
ended_stopped meaning defined assumed stop new after NoMemory is = absurd is

-- a turn that took what was learned
pub turn_taken : (meaning : Meaning) (defined : List (List Lit)) (assumed : List Lit) (stop : ℕ)
    (old now back set new : Searched) (learned : Learned) (after : Counted) (turn : Turn)
    → IsDown old now → Taught now back learned → HasPropagated back set
    → HasTaken stop set new learned.asserting after turn
    → IsTurn meaning defined assumed stop old new after turn
turn_taken meaning defined assumed stop old now back set new learned after Going down is by
    taken =
    record {
      below = taken.below;
      nearer =
          elim taken.taken [
            | inl longer ↦
                let same : set.clauses ≡ old.clauses = by.clauses ∙ is.back.clauses
                ∙ down.clauses in
                inl (subst (λ s. length s < length new.clauses) same longer)
            | inr assigned ↦
                inr (record {
                  same =
                      ap length
                      (ap (λ s. s.clauses) assigned.same ∙ by.clauses ∙ is.back.clauses
                      ∙ down.clauses);
                  more =
                      subst (λ s. weight old.trail < weight s.trail) (sym assigned.same)
                      (weighs_more old now back set learned down is by.extends assigned.set);
                })
          ];
    }
turn_taken meaning defined assumed stop old now back set new learned after (Ended answer) down is
    by taken =
    ended_stopped meaning defined assumed stop new after answer taken

-- ---- clauses that are given

-- a clause that is given at a fixpoint is worth adding
pub given_is_unit : (meaning : Meaning) (clauses : List (List Lit)) (trail : Assigned)
    (clause : List Lit) → IsTrail trail → IsFixpoint clauses trail.steps
    → IsGiven meaning trail clause → 1 ≤ length clause → IsUnit clauses clause
given_is_unit meaning clauses trail clause is fixpoint given some =
    record { some = some; once = given.once; new = go given.standing }
  where
    go : IsFalseOrForces trail.steps clause → ¬ Absorbs clauses clause
    go (inl all_false) = fixpoint_absorbs_no_false trail clauses clause is fixpoint some all_false
    go (inr forces) = fixpoint_absorbs_no_unit trail clauses clause forces.0 is fixpoint forces.1

-- an empty core is one for all assumed literals, where a theory means the same
ended_empty : (one two : Meaning) (defined : List (List Lit)) (assumed : List Lit) (stop : ℕ)
    (new : Searched) (after : Counted) (answer : Answer) → MeansTheSame one two → IsBelow stop after
    → IsEmptyCore two defined answer → HasEnded one defined assumed stop new after answer
ended_empty one two defined assumed stop new after Model same below is = absurd is
ended_empty one two defined assumed stop new after (Core core) same below is =
    record {
      says =
          record {
            among = (is assumed).among;
            unmet =
                λ values model. (is assumed).unmet values
                (model_same one two defined values same model);
          };
      counted = below;
    }
ended_empty one two defined assumed stop new after Spent same below is = absurd is
ended_empty one two defined assumed stop new after (SpentInside set units) same below is =
    absurd is
ended_empty one two defined assumed stop new after Paused same below is = absurd is
ended_empty one two defined assumed stop new after NoMemory same below is = absurd is

pub turn_given : (one two : Meaning) (defined : List (List Lit)) (assumed : List Lit) (stop : ℕ)
    (old new : Searched) (after : Counted) (turn : Turn) → MeansTheSame one two → IsBelow stop after
    → HasGiven two defined old new turn → IsTurn one defined assumed stop old new after turn
turn_given one two defined assumed stop old new after Going same below is =
    record { nearer = inl is; below = below.before_stop }
turn_given one two defined assumed stop old new after (Ended answer) same below is =
    ended_empty one two defined assumed stop new after answer same below is

-- ---- where a theory means the same

-- an answer says the same of it
pub answer_same : (one two : Meaning) (defined : List (List Lit)) (assumed : List Lit) (limit : ℕ)
    (trail : Assigned) (answer : Answer) → MeansTheSame one two
    → IsAnswer two defined assumed limit trail answer
    → IsAnswer one defined assumed limit trail answer
answer_same one two defined assumed limit trail Model same is =
    record {
      total = is.total;
      model = model_back one two defined (values_of trail) same is.model;
      true_lits = is.true_lits;
    }
answer_same one two defined assumed limit trail (Core core) same is =
    record {
      among = is.among;
      unmet =
          λ values model. is.unmet values (model_same one two defined values same model);
    }
answer_same one two defined assumed limit trail Spent same is = tt
answer_same one two defined assumed limit trail (SpentInside set units) same is =
    record {
      values = is.values;
      check =
          record {
            spent = (same.is_spent is.values set units).1 is.check.spent;
            as_many = is.check.as_many;
          };
      meets = is.meets;
      true_lits = is.true_lits;
    }
answer_same one two defined assumed limit trail Paused same is = tt
answer_same one two defined assumed limit trail NoMemory same is = tt

-- a turn from a state that is as near
pub turn_then : (one two : Meaning) (defined : List (List Lit)) (assumed : List Lit) (stop : ℕ)
    (old mid new : Searched) (after : Counted) (turn : Turn) → MeansTheSame one two
    → mid.clauses ≡ old.clauses → weight old.trail ≤ weight mid.trail
    → IsTurn two defined assumed stop mid new after turn
    → IsTurn one defined assumed stop old new after turn
turn_then one two defined assumed stop old mid new after Going same store no_less is =
    record {
      below = is.below;
      nearer =
          elim is.nearer [
            | inl longer ↦ inl (subst (λ s. length s < length new.clauses) store longer)
            | inr further ↦
                inr (record {
                  same = further.same ∙ ap length store;
                  more = omega (arith, no_less, further.more);
                })
          ];
    }
turn_then one two defined assumed stop old mid new after (Ended answer) same store no_less is =
    record {
      says = answer_same one two defined assumed after.limit new.trail answer same is.says;
      counted = is.counted;
    }

-- ---- how many turns are left

-- the greatest weight of a trail
abbrev pub top : ℕ → ℕ
top vars = vars * (vars + 1) ^ vars

-- the turns that are left at most: each makes clauses fewer that may come, or adds weight
abbrev pub turns_left : ℕ → ℕ → ℕ → ℕ → ℕ
turns_left full clauses vars weighs = (full - clauses) * (top vars + 1) + (top vars - weighs)

fewer_by_clause : (few many most less more : ℕ) → few < many → less ≤ most
    → few * (most + 1) + less < many * (most + 1) + more
fewer_by_clause few many most less more fewer within =
    let next : few + 1 ≤ many = omega arith in
    let all : (few + 1) * (most + 1) ≤ many * (most + 1) = mul-le-mul_right (most + 1) next in
    let one : (few + 1) * (most + 1) ≡ few * (most + 1) + (most + 1) = grind arith in
    omega (arith, all, one, within)

pub fewer_turns : (full vars : ℕ) (old new : Searched) → IsTrail new.trail
    → new.trail.vars ≡ vars → length new.clauses < full → IsNearer old new
    → turns_left full (length new.clauses) vars (weight new.trail)
    < turns_left full (length old.clauses) vars (weight old.trail)
fewer_turns full vars old new is same few (inl longer) =
    fewer_by_clause (full - length new.clauses) (full - length old.clauses) (top vars)
    (top vars - weight new.trail) (top vars - weight old.trail) (omega arith) (omega arith)
fewer_turns full vars old new is same few (inr further) =
    let within : weight new.trail ≤ top vars =
    subst (λ n. weight new.trail ≤ top n) same (weight_within new.trail is) in
    let less : top vars - weight new.trail < top vars - weight old.trail =
    omega (arith, within, further.more) in
    let left : (full - length new.clauses) * (top vars + 1)
    ≡ (full - length old.clauses) * (top vars + 1) =
    ap (λ n. (full - n) * (top vars + 1)) further.same in
    omega (arith, less, left)

-- the clauses that came are few
pub few_came : (meaning : Meaning) (assumed : List Lit) (old new : Searched)
    (before after : Counted)
    (vars : ℕ) → GoesOn meaning assumed old new before after → AreOver new.trail.vars new.clauses
    → new.trail.vars ≡ vars → length new.clauses < length old.clauses + 3 ^ vars
few_came meaning assumed old new before after vars on over same =
    let few : length (added_clauses on.added) < 3 ^ vars =
    units_are_few vars old.clauses (added_clauses on.added)
    (subst (λ n. AreOver n (added_clauses on.added)) same
    (all_through (All (IsOver new.trail.vars)) (added_clauses on.added) new.clauses
    (subst (λ all. All (Contains all) (added_clauses on.added)) (sym on.clauses)
    (All-weaker (Contains (added_clauses on.added))
    (Contains (old.clauses ++ added_clauses on.added))
    (λ one here. Contains-append_right old.clauses (added_clauses on.added) one here)
    (added_clauses on.added) (All-contains_itself (added_clauses on.added)))) over))
    on.are_units in
    let all = ap length on.clauses in
    let sum = length-append old.clauses (added_clauses on.added) in
    omega (arith, few, all, sum)

-- ---- the answer of a call

pub ended_at_slice : (one two : Meaning) (defined : List (List Lit)) (assumed : List Lit)
    (stop slice : ℕ) (new : Searched) (before after : Counted) (answer : Answer)
    → MeansTheSame one two → IsStop slice before stop → after.limit ≡ before.limit
    → HasEnded two defined assumed stop new after answer
    → HasEnded one defined assumed (length before.units + slice) new after answer
ended_at_slice one two defined assumed stop slice new before after answer same is limit ended =
    record {
      says = answer_same one two defined assumed after.limit new.trail answer same ended.says;
      counted = go answer ended.counted;
    }
  where
    below : IsBelow stop after → IsBelow (length before.units + slice) after
    below early =
        record {
          before_stop = omega (arith, early.before_stop, is.within);
          limit = early.limit;
        }

    go : (some : Answer) → IsCountedRight stop after some
        → IsCountedRight (length before.units + slice) after some
    go Model counts = below counts
    go (Core core) counts = below counts
    go Spent counts = counts
    go (SpentInside set units) counts = below counts
    go Paused counts =
        record {
          at_stop =
              counts.at_stop ∙ is.exact (omega (arith, counts.at_stop, counts.limit, limit));
          limit = counts.limit;
        }
    go NoMemory counts = absurd counts
