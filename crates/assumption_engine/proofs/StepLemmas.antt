-- What one call of a search comes to, by what its parts say.
use Rattle.std.proofs.Common.{◌≡◌, ◌<◌, ℕ, List, [], ◌∷◌, ◌++◌, length, inr, refl, sym, ap, ◌∙◌}
use Rattle.std.proofs.Common.{◌≡◌, ◌≤◌, ◌⊎◌, subst}
use Rattle.std.specs.Prelude.{All, Contains, Result, Ok, Err, OnOk, IfOk}
use Rattle.clause_store.specs.declared.literal.Lit.{Lit}
use Rattle.clause_store.specs.declared.literal.Value.TheVariants.{Unset}
use Rattle.clause_store.specs.declared.step.Step.{Step}
use Rattle.clause_store.specs.Clause.{IsOver}
use Rattle.clause_store.specs.Counted.{Counted}
use Rattle.clause_store.specs.Standing.{AreFollowed, Followed}
use Rattle.clause_store.specs.Trail.{IsTrail, value_of}
use Rattle.propagator.specs.Fixpoint.{IsFixpoint}
use Rattle.search_state.specs.State.{Searched}
use Rattle.assumption_engine.specs.Theory.{Meaning, MeansTheSame}
use Rattle.search_heuristics.specs.Places.{AreTrueBefore}
use Rattle.assumption_engine.specs.Down.{IsDown, KeepsPlaces}
use Rattle.assumption_engine.specs.Engine.{GoesOn, HasCounted, HasPropagated, IsLearned, IsRight}
use Rattle.assumption_engine.specs.Engine.{WentBack}
use Rattle.assumption_engine.specs.Sided.{AreInOrder, AreOpposed}
use Rattle.assumption_engine.specs.declared.task.Task.{Task}
use Rattle.assumption_engine.specs.Task.{IsNext, IsTask}
use Rattle.assumption_engine.specs.Answer.{HasGiven, HasRoom, HasTurned, IsGoing, IsTurn, MayTurn}
use Rattle.assumption_engine.specs.Progress.{weight}
use Rattle.assumption_engine.specs.declared.answer.Turn.{Turn}
use Rattle.assumption_engine.specs.declared.answer.Turn.TheVariants.{Going}
use Rattle.assumption_engine.proofs.AnswerLemmas.{room_below}
use Rattle.assumption_engine.proofs.SameLemmas.{pushed, right_moved, right_pushed}
use Rattle.assumption_engine.proofs.TurnLemmas.{turn_given, turn_then}
use Rattle.assumption_engine.proofs.DownLemmas.{new_work}
use Rattle.assumption_engine.proofs.GoingLemmas.{counted_one, counted_then, goes_on_still}
use Rattle.assumption_engine.proofs.GoingLemmas.{goes_on_then}
use Rattle.assumption_engine.proofs.ProgressLemmas.{weight_longer, weight_no_less}
use Rattle.assumption_engine.proofs.SidedLemmas.{order_after_back, order_extended, order_pushed}

-- what was counted after a search went on
pub counted_on : {one two : Meaning} {followed : List Followed} {defined there : List (List Lit)}
    {assumed : List Lit} {old new : Searched} {before mid after : Counted} → there ≡ defined
    → MeansTheSame one two → IsRight two followed new there → GoesOn one assumed old new before mid
    → HasCounted two assumed there new.clauses mid after
    → HasCounted one assumed defined old.clauses before after
counted_on {one} {two} {followed} {defined} {there} {assumed} {old} {new} {before} {mid} {after}
    kept same right on late =
    subst (λ d. HasCounted one assumed d old.clauses before after) kept
    (counted_then one two followed there assumed old new before mid after same right on late)

-- what was learned is counted
pub counted_learned : {meaning : Meaning} {followed : List Followed} {state : Searched}
    {defined : List (List Lit)} {before after : Counted} {clause lits : List Lit} {lit : Lit}
    (assumed : List Lit) → IsRight meaning followed state defined → IsTrail state.trail
    → IsFixpoint state.clauses state.trail.steps → IsLearned state.clauses state.trail clause lit
    → AreOpposed state.clauses assumed clause
    → value_of state.trail.steps lit ≡ Unset → lits ≡ clause
    → after ≡ record before { units = before.units ++ lits ∷ [] }
    → HasCounted meaning assumed defined state.clauses before after
counted_learned {meaning} {followed} {state} {defined} {before} {after} {clause} {lits} {lit}
    assumed right is fixpoint learned opposites unset same counts =
    counted_one meaning assumed followed state defined before after clause right
    (new_work state.clauses state.trail clause lit is fixpoint learned unset) learned.stands
    opposites
    (counts
    ∙ ap (λ (them : List Lit). record before { units = before.units ++ them ∷ [] }) same)

-- a search went on where the theory means the same
pub goes_on_same : {one two : Meaning} {assumed : List Lit} {old new : Searched}
    {before after : Counted} → MeansTheSame one two → GoesOn two assumed old new before after
    → GoesOn one assumed old new before after
goes_on_same {one} {two} {assumed} {old} {new} {before} {after} same on =
    goes_on_then one two assumed old old new before before after same
    (goes_on_still one assumed old old before before refl refl refl (λ order. order)) on

-- a search went on, and on
pub on_then : {one two : Meaning} {assumed : List Lit} {first second third : Searched}
    {before mid after : Counted} → MeansTheSame one two
    → GoesOn one assumed first second before mid → GoesOn two assumed second third mid after
    → GoesOn one assumed first third before after
on_then {one} {two} {assumed} {first} {second} {third} {before} {mid} {after} same early late =
    goes_on_then one two assumed first second third before mid after same early late

-- a search went back
pub goes_on_back : {meaning : Meaning} {assumed : List Lit} {level : ℕ} {old new : Searched}
    {counted : Counted} → WentBack level old new → GoesOn meaning assumed old new counted counted
goes_on_back {meaning} {assumed} {level} {old} {new} {counted} back =
    goes_on_still meaning assumed old new counted counted (ap (λ t. t.vars) back.trail)
    back.clauses refl
    (λ order. subst (λ clauses. AreInOrder clauses assumed new.trail.steps) (sym back.clauses)
    (subst (λ t. AreInOrder old.clauses assumed t.steps) (sym back.trail)
    (order_after_back old.clauses assumed old.trail level back.was_trail order)))

-- what is in order stays so by propagating
pub order_propagated : {assumed : List Lit} {old new : Searched} → HasPropagated old new
    → AreInOrder old.clauses assumed old.trail.steps
    → AreInOrder new.clauses assumed new.trail.steps
order_propagated {assumed} {old} {new} by order =
    order_extended new.clauses assumed old.trail new.trail by.extends by.of_store
    (subst (λ clauses. AreInOrder clauses assumed old.trail.steps) (sym by.clauses) order)

-- a search went on by propagating
pub goes_on_propagated : {meaning : Meaning} {assumed : List Lit} {old new : Searched}
    {counted : Counted} → HasPropagated old new → GoesOn meaning assumed old new counted counted
goes_on_propagated {meaning} {assumed} {old} {new} {counted} by =
    goes_on_still meaning assumed old new counted counted by.extends.vars by.clauses refl
    (order_propagated by)

-- a search went on by going back over conflicts
pub goes_on_down : (meaning : Meaning) (assumed : List Lit) (old new : Searched)
    (before after : Counted) → after ≡ before → IsDown old new
    → GoesOn meaning assumed old new before after
goes_on_down meaning assumed old new before after same down =
    goes_on_still meaning assumed old new before after down.vars down.clauses same
    (down.order assumed)

-- the trail then weighs no less
weight_propagated : {old new : Searched} → HasPropagated old new
    → weight old.trail ≤ weight new.trail
weight_propagated {old} {new} by =
    weight_no_less old.trail new.trail by.extends.added by.extends.vars by.extends.steps

-- a turn may go on after that
pub may_turn_on : {one two : Meaning} {was followed : List Followed} {old new : Searched}
    {defined there : List (List Lit)} {assumed : List Lit} {stop : ℕ} {counted : Counted}
    → HasPropagated old new → IsRight two followed new there
    → MayTurn one was old defined assumed stop counted
    → MayTurn two followed new there assumed stop counted
may_turn_on {one} {two} {was} {followed} {old} {new} {defined} {there} {assumed} {stop} {counted}
    by right may =
    record {
      right = right;
      over = subst (λ n. All (IsOver n) assumed) (sym by.extends.vars) may.over;
      order = order_propagated by may.order;
      room = may.room;
    }

-- a literal was decided
going_decided : {stop : ℕ} {old new : Searched} {after : Counted} (step : Step)
    → new ≡ pushed old step → length after.units < stop → IsGoing stop old new after
going_decided {stop} {old} {new} {after} step set below =
    record {
      nearer =
          inr (record {
            same = ap (λ s. length s.clauses) set;
            more =
                weight_longer old.trail new.trail step [] (ap (λ s. s.trail.vars) set)
                (ap (λ s. s.trail.steps) set);
          });
      below = below;
    }

-- ---- turns

-- a turn that decided a literal
pub turned_decided : {meaning : Meaning} {followed : List Followed} {old new : Searched}
    {defined : List (List Lit)} {assumed : List Lit} {stop : ℕ} {counted : Counted} (step : Step)
    → IsRight meaning followed old defined → new ≡ pushed old step
    → Contains assumed step.lit ⊎ IsNext old.clauses assumed old.trail.steps step.lit
    → length counted.units < stop
    → HasTurned meaning meaning followed defined defined assumed stop old new counted counted Going
turned_decided {meaning} {followed} {old} {new} {defined} {assumed} {stop} {counted} step right
    set decided below =
    record {
      right = right_pushed meaning followed old new defined step right set;
      on =
          goes_on_still meaning assumed old new counted counted (ap (λ s. s.trail.vars) set)
          (ap (λ s. s.clauses) set) refl
          (λ order. subst (λ s. AreInOrder s.clauses assumed s.trail.steps) (sym set)
          (order_pushed old.clauses assumed old.trail.steps step decided order));
      does = going_decided step set below;
    }

-- a turn that left the state as it was
pub turned_still : {one two : Meaning} {before after : List Followed} {state : Searched}
    {defined : List (List Lit)} {assumed : List Lit} {stop : ℕ} {counted : Counted} {turn : Turn}
    → MeansTheSame one two → IsRight one before state defined
    → AreFollowed state.trail.steps after
    → IsTurn one defined assumed stop state state counted turn
    → HasTurned one two after defined defined assumed stop state state counted counted turn
turned_still {one} {two} {before} {after} {state} {defined} {assumed} {stop} {counted} {turn} same
    right follows is =
    record {
      right =
          right_moved one two before after state state defined same right right.alive refl refl
          follows;
      on = goes_on_still one assumed state state counted counted refl refl refl (λ order. order);
      does = is;
    }

-- a turn that goes on after propagation
pub turned_on : {one two : Meaning} {old mid : Searched} {was defined : List (List Lit)}
    (three : Meaning) (followed : List Followed) (there : List (List Lit)) (assumed : List Lit)
    (stop : ℕ) (new : Searched) (counted after : Counted) (turn : Turn) → MeansTheSame one two
    → was ≡ defined → HasPropagated old mid
    → HasTurned two three followed was there assumed stop mid new counted after turn
    → HasTurned one three followed defined there assumed stop old new counted after turn
turned_on {one} {two} {old} {mid} {was} {defined} three followed there assumed stop new counted
    after turn same kept by is =
    record {
      right = is.right;
      on =
          goes_on_then one two assumed old mid new counted counted after same
          (goes_on_propagated by) is.on;
      does =
          subst (λ d. IsTurn one d assumed stop old new after turn) kept
          (turn_then one two was assumed stop old mid new after turn same by.clauses
          (weight_propagated by) is.does);
    }

pub if_turned_on : {E : Type 0} {one two : Meaning} {old mid : Searched}
    {was defined : List (List Lit)} (three : Meaning) (followed : List Followed)
    (there : List (List Lit)) (assumed : List Lit) (stop : ℕ) (new : Searched)
    (counted after : Counted) (result : Result Turn E) → MeansTheSame one two → was ≡ defined
    → HasPropagated old mid
    → IfOk result (HasTurned two three followed was there assumed stop mid new counted after)
    → IfOk result (HasTurned one three followed defined there assumed stop old new counted after)
if_turned_on {E} {one} {two} {old} {mid} {was} {defined} three followed there assumed stop new
    counted after (Ok turn) same kept by is =
    turned_on three followed there assumed stop new counted after turn same kept by is
if_turned_on three followed there assumed stop new counted after (Err e) same kept by is = is

-- a turn that learned
pub turned_learned : {E : Type 0} (one two : Meaning) (followed : List Followed)
    (defined there : List (List Lit)) (assumed : List Lit) (stop : ℕ) (old new : Searched)
    (before after : Counted) (result : Result Turn E) → OnOk result (IsRight two followed new there)
    → OnOk result ((assumed : List Lit) → AreInOrder old.clauses assumed old.trail.steps
    → GoesOn one assumed old new before after)
    → AreInOrder old.clauses assumed old.trail.steps
    → IfOk result
    (λ turn. (assumed : List Lit) → IsTurn one defined assumed stop old new after turn)
    → IfOk result (HasTurned one two followed defined there assumed stop old new before after)
turned_learned one two followed defined there assumed stop old new before after (Ok turn) right on
    order is =
    record { right = right; on = on assumed order; does = is assumed }
turned_learned one two followed defined there assumed stop old new before after (Err e) right on
    order is =
    is

-- a turn that took a clause of the theory
pub turned_given : {E : Type 0} {one two : Meaning} {stop : ℕ} {counted : Counted}
    (three : Meaning) (followed : List Followed) (defined there : List (List Lit))
    (assumed : List Lit) (old new : Searched) (result : Result Turn E) → MeansTheSame one two
    → HasRoom stop counted
    → OnOk result (IsRight three followed new there)
    → OnOk result ((assumed : List Lit) (after : Counted) → GoesOn two assumed old new after after)
    → IfOk result (HasGiven two defined old new)
    → IfOk result (HasTurned one three followed defined there assumed stop old new counted counted)
turned_given {E} {one} {two} {stop} {counted} three followed defined there assumed old new
    (Ok turn) same room right on is =
    record {
      right = right;
      on = goes_on_same same (on assumed counted);
      does =
          turn_given one two defined assumed stop old new counted turn same
          (room_below stop counted room) is;
    }
turned_given three followed defined there assumed old new (Err e) same room right on is = is

-- places that are kept stay right
pub kept_places : {X E : Type 0} {old : List Step} {was places : List ℕ} (result : Result X E)
    (new : List Step) (assumed : List Lit) → OnOk result (KeepsPlaces old new) → places ≡ was
    → AreTrueBefore assumed old was → OnOk result (AreTrueBefore assumed new places)
kept_places {X} {E} {old} {was} {places} (Ok x) new assumed keeps same are =
    subst (AreTrueBefore assumed new) (sym same) (keeps assumed was are)
kept_places (Err e) new assumed keeps same are = keeps

-- what is true at success
pub on_ok_of : {X E : Type 0} {P : X → Type 0} {Q : Type 0} (result : Result X E) → IfOk result P
    → ((x : X) → P x → Q) → OnOk result Q
on_ok_of (Ok x) is then = then x is
on_ok_of (Err e) is then = is

-- a task that was read is the one that was found
pub task_read : (meaning : Meaning) (assumed : List Lit) (state : Searched) (given : List Lit)
    (found task : Task) → found ≡ task → IsTask meaning assumed state given found
    → IsTask meaning assumed state given task
task_read meaning assumed state given found task is holds =
    subst (IsTask meaning assumed state given) is holds
