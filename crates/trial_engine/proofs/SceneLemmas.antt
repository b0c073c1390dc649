-- That the engine of a scene stays right.
use Rattle.std.proofs.Common.{◌≡◌, ℕ, Bool, List, [], false, subst}
use Rattle.std.specs.Prelude.{All, Result, Ok, Err, IfOk}
use Rattle.std.proofs.lemmas.List.Elements.{All-weaker}
use Rattle.clause_store.specs.declared.literal.Lit.{Lit}
use Rattle.clause_store.specs.Clause.{HasNoVariableTwice, Meets}
use Rattle.search_state.specs.State.{Searched}
use Rattle.assumption_engine.specs.declared.engine.Engine.{Engine}
use Rattle.assumption_engine.specs.Engine.{IsRight}
use Rattle.assumption_engine.specs.Theory.{MeansTheSame}
use Rattle.trial_engine.specs.Told.{IsClauseOver, IsToldModel, Told, meaning_of}
use Rattle.trial_engine.specs.Scene.{IsSound}

-- after a call
pub still_sound : (old new : Told) (state more : Searched) (defined others : List (List Lit))
    (dead died : Bool) (listed : List (List Lit)) → IsSound old state defined dead listed
    → (died ≡ false → IsRight (meaning_of new) [] more others)
    → MeansTheSame (meaning_of old) (meaning_of new) → IsSound new more others died listed
still_sound old new state more defined others dead died listed sound right same =
    record {
      right = right;
      met = λ values model. sound.met values ((same.models values).1 model);
      once = sound.once;
    }

-- after it was opened
pub opened : {E : Type 0} (result : Result (Engine Told) E) (theory : Told) (vars : ℕ)
    (listed : List (List Lit)) → All (IsClauseOver vars) listed → theory.clauses ≡ listed
    → IfOk result (λ it. IsRight (meaning_of it.theory) [] it.state it.defined)
    → IfOk result (λ it. it.theory ≡ theory)
    → IfOk result (λ it. IsSound it.theory it.state it.defined it.dead listed)
opened (Ok it) theory vars listed are clauses right is =
    record {
      right = λ alive. right;
      met =
          λ values model. subst (Meets values) clauses
          (subst (λ (told : Told). IsToldModel told values) is model).clauses;
      once =
          All-weaker (IsClauseOver vars) HasNoVariableTwice (λ clause is_one. is_one.allowed.once)
          listed are;
    }
opened (Err cause) theory vars listed are clauses right is = tt
