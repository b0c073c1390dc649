-- That the answers of an engine are right.
use Rattle.std.proofs.Common.{◌≡◌, ℕ, List, [], length, get_or}
use Rattle.std.proofs.Common.{Some, refl, sym, subst, arith}
use Rattle.std.specs.Prelude.{All, Contains, slice_get, Bool}
use Rattle.std.proofs.lemmas.List.Elements.{All-cons, All-nil, All-weaker}
use Rattle.std.proofs.lemmas.Option.{slice_get_read}
use Rattle.clause_store.specs.declared.literal.Lit.{Lit}
use Rattle.clause_store.specs.declared.literal.ClauseRef.{ClauseRef}
use Rattle.clause_store.specs.declared.step.Step.{Step}
use Rattle.clause_store.specs.Clause.{AreOver, HoldsIn, IsTrueIn, IsOver, Meets}
use Rattle.clause_store.specs.Counted.{Counted}
use Rattle.clause_store.specs.Laws.{AreMoreClauses}
use Rattle.clause_store.specs.Standing.{Followed, IsFalse, IsConflict}
use Rattle.clause_store.specs.Trail.{Assigned, IsTrail, IsTrailOf, IsTotal}
use Rattle.clause_store.specs.Trail.{values_of}
use Rattle.clause_store.proofs.LiteralLemmas.{all_through}
use Rattle.clause_store.proofs.TrailLemmas.{total_means}
use Rattle.propagator.specs.Fixpoint.{IsFixpoint}
use Rattle.propagator.proofs.TotalLemmas.{total_fixpoint_meets}
use Rattle.conflict_learning.specs.Analysis.{greatest_level}
use Rattle.conflict_learning.specs.AssumptionCore.{IsCore, IsDecision, CannotMeet}
use Rattle.assumption_engine.specs.Theory.{Meaning, MeansTheSame, IsSpentCheck}
use Rattle.assumption_engine.specs.Engine.{IsModelOf, IsRight}
use Rattle.assumption_engine.specs.Answer.{HasRoom, IsBelow, IsCoreOf}
use Rattle.assumption_engine.specs.Answer.{IsModelOn}
use Rattle.assumption_engine.specs.Answer.{IsSpentInside}
use Rattle.search_state.specs.State.{Searched}
use Rattle.assumption_engine.proofs.SameLemmas.{model_same}
use Rattle.search_state.specs.Assumed.{AreTrue, AreAssumedFirst}
use Rattle.search_state.proofs.AssumedLemmas.{decided_assumed}
use Rattle.conflict_learning.proofs.ConflictLemmas.{none_met}

-- ---- cores

-- the decisions behind a false assumed literal are assumed
decision_assumed : (assumed : List Lit) (steps : List Step) (refused lit : Lit)
    → AreAssumedFirst assumed steps → Contains assumed refused → IsFalse steps refused
    → IsDecision steps lit → Contains assumed lit
decision_assumed assumed steps refused lit first here wrong (k, step, within, is, made) =
    subst (Contains assumed) made.0
    (decided_assumed assumed steps refused k step first here wrong
    (slice_get_read steps (length steps) k step refl within (sym is)) made.1)

pub core_of : (meaning : Meaning) (followed : List Followed) (state : Searched)
    (defined : List (List Lit)) (assumed : List Lit)
    (refused : Lit) (core : List Lit) → IsRight meaning followed state defined
    → AreAssumedFirst assumed state.trail.steps → Contains assumed refused
    → IsFalse state.trail.steps refused
    → IsCore state.trail.steps refused core → CannotMeet state.clauses core
    → IsCoreOf meaning defined assumed core
core_of meaning followed state defined assumed refused core right first here wrong is unmet =
    record {
      among = subst (All (Contains assumed)) (sym is.is)
          (All-cons (Contains assumed) refused is.decisions here
          (All-weaker (IsDecision state.trail.steps) (Contains assumed)
          (λ lit. decision_assumed assumed state.trail.steps refused lit first here wrong)
          is.decisions is.decided));
      unmet = λ values model all. unmet values (right.holds values model) all;
    }

-- so does a clause that is false at level 0
pub core_at_zero : (one two : Meaning) (followed : List Followed) (state : Searched)
    (defined there : List (List Lit)) (assumed core : List Lit) (at : ClauseRef) (lits : List Lit)
    → MeansTheSame one two → IsRight two followed state there → there ≡ defined
    → IsTrail state.trail → IsTrailOf state.trail.steps state.clauses
    → IsConflict state.clauses state.trail.steps at
    → slice_get state.clauses at.0 ≡ Some lits → 0 ≡ greatest_level state.trail.steps lits
    → core ≡ [] → IsCoreOf one defined assumed core
core_at_zero one two followed state defined there assumed core at lits same right kept is of
    conflict named level none =
    record {
      among = subst (All (Contains assumed)) (sym none) (All-nil (Contains assumed));
      unmet =
          λ values model all. none_met state.clauses state.trail at lits is of
          conflict named (sym level) values
          (right.holds values
          (subst (λ d. IsModelOf two d values) (sym kept)
          (model_same one two defined values same model)));
    }

-- ---- models

-- where clauses are among those of a store, a total assignment at a fixpoint meets them
pub some_met : (meaning : Meaning) (followed : List Followed) (state : Searched)
    (defined some : List (List Lit)) → IsRight meaning followed state defined
    → AreOver state.trail.vars state.clauses → IsTotal state.trail
    → IsFixpoint state.clauses state.trail.steps
    → AreMoreClauses some state.clauses → Meets (values_of state.trail) some
some_met meaning followed state defined some right over total fixpoint there =
    all_through (HoldsIn (values_of state.trail)) some state.clauses there
    (total_fixpoint_meets state.trail state.clauses total over fixpoint)

assumed_true : (trail : Assigned) (lits : List Lit) → IsTotal trail → All (IsOver trail.vars) lits
    → AreTrue trail.steps lits → All (IsTrueIn (values_of trail)) lits
assumed_true trail lits total over are k d within =
    (total_means trail (get_or lits k d) total (over k d within)).1 (are k d within)

pub is_model : (meaning : Meaning) (followed : List Followed) (state : Searched)
    (defined : List (List Lit)) (assumed : List Lit) → IsRight meaning followed state defined
    → AreOver state.trail.vars state.clauses → IsTotal state.trail
    → IsFixpoint state.clauses state.trail.steps
    → All (IsOver state.trail.vars) assumed → AreTrue state.trail.steps assumed
    → meaning.models (values_of state.trail)
    → IsModelOn meaning defined assumed state.trail
is_model meaning followed state defined assumed right over total fixpoint assumed_over are
    accepted =
    record {
      total = total;
      model =
          record {
            model = accepted;
            meets = some_met meaning followed state defined defined right over total fixpoint
                right.kept;
          };
      true_lits = assumed_true state.trail assumed total assumed_over are;
    }

pub is_spent_inside : (meaning : Meaning) (followed : List Followed) (state : Searched)
    (defined : List (List Lit)) (assumed : List Lit) (limit : ℕ) (set : List Bool)
    (units : List (List Lit)) → IsRight meaning followed state defined
    → AreOver state.trail.vars state.clauses → IsTotal state.trail
    → IsFixpoint state.clauses state.trail.steps
    → All (IsOver state.trail.vars) assumed → AreTrue state.trail.steps assumed
    → IsSpentCheck meaning limit (values_of state.trail) set units
    → IsSpentInside meaning defined assumed limit set units
is_spent_inside meaning followed state defined assumed limit set units right over total fixpoint
    assumed_over are check =
    record {
      values = values_of state.trail;
      check = check;
      meets = some_met meaning followed state defined defined right over total fixpoint
          right.kept;
      true_lits = assumed_true state.trail assumed total assumed_over are;
    }

pub room_below : (stop : ℕ) (before : Counted) → HasRoom stop before → IsBelow stop before
room_below stop before room =
    record { before_stop = room.below; limit = omega (arith, room.below, room.within) }
