-- What stays where a theory means the same.
use Rattle.std.proofs.Common.{◌≡◌, Bool, false, ◌≤◌, List, [], ◌∷◌, ◌++◌, length, refl, sym, ap}
use Rattle.std.proofs.Common.{◌∙◌}
use Rattle.std.proofs.Common.{subst, arith, length-take}
use Rattle.std.specs.Prelude.{map}
use Rattle.std.proofs.lemmas.List.{length-map, take-append-le}
use Rattle.clause_store.specs.declared.literal.Lit.{Lit}
use Rattle.clause_store.specs.declared.step.Step.{Step}
use Rattle.clause_store.specs.Clause.{Meets}
use Rattle.clause_store.specs.Laws.{AreMoreClauses}
use Rattle.clause_store.specs.Standing.{AreFollowed, Followed, as_followed}
use Rattle.clause_store.specs.Trail.{Assigned}
use Rattle.assumption_engine.specs.Theory.{IsGiven, Meaning, MeansTheSame}
use Rattle.assumption_engine.specs.Engine.{HasPropagated, IsModelOf, IsRight}
use Rattle.search_state.specs.State.{Searched}

pub same_itself : (meaning : Meaning) → MeansTheSame meaning meaning
same_itself meaning =
    record {
      models = λ values. (λ is. is, λ is. is);
      greatest = refl;
      needs = refl;
      may_give = λ clause. (λ is. is, λ is. is);
      is_spent = λ values set units. (λ is. is, λ is. is);
    }

pub same_then : (one two three : Meaning) → MeansTheSame one two → MeansTheSame two three
    → MeansTheSame one three
same_then one two three first second =
    record {
      models =
          λ values. (
            λ is. (second.models values).0 ((first.models values).0 is),
            λ is. (first.models values).1 ((second.models values).1 is),
          );
      greatest = first.greatest ∙ second.greatest;
      needs = first.needs ∙ second.needs;
      may_give =
          λ clause. (
            λ is. (second.may_give clause).0 ((first.may_give clause).0 is),
            λ is. (first.may_give clause).1 ((second.may_give clause).1 is),
          );
      is_spent =
          λ values set units. (
            λ is. (second.is_spent values set units).0 ((first.is_spent values set units).0 is),
            λ is. (first.is_spent values set units).1 ((second.is_spent values set units).1 is),
          );
    }

-- a model of the one is a model of the other
pub model_same : (one two : Meaning) (defined : List (List Lit)) (values : List Bool)
    → MeansTheSame one two → IsModelOf one defined values → IsModelOf two defined values
model_same one two defined values same is =
    record { model = (same.models values).0 is.model; meets = is.meets }

pub model_back : (one two : Meaning) (defined : List (List Lit)) (values : List Bool)
    → MeansTheSame one two → IsModelOf two defined values → IsModelOf one defined values
model_back one two defined values same is =
    record { model = (same.models values).1 is.model; meets = is.meets }

-- the engine is right with other assignments
pub right_moved : (one two : Meaning) (before after : List Followed) (old new : Searched)
    (defined : List (List Lit)) → MeansTheSame one two → IsRight one before old defined
    → new.dead ≡ false → new.clauses ≡ old.clauses
    → new.trail.vars ≡ old.trail.vars → AreFollowed new.trail.steps after
    → IsRight two after new defined
right_moved one two before after old new defined same is alive store vars follows =
    record {
      alive = alive;
      holds =
          λ values model. subst (Meets values) (sym store)
          (is.holds values (model_back one two defined values same model));
      needed =
          subst (AreMoreClauses two.needs) (sym store)
          (subst (λ needs. AreMoreClauses needs old.clauses) same.needs is.needed);
      kept = subst (AreMoreClauses defined) (sym store) is.kept;
      range = let g = same.greatest in let r = is.range in omega (arith, g, r, vars);
      follows = follows;
    }

-- a front of a trail is one when assignments come last
pub followed_more : (steps added : List Step) (followed : List Followed)
    → AreFollowed steps followed → AreFollowed (steps ++ added) followed
followed_more steps added followed is =
    let same = simp (length-map, length-take) at (ap length is) in
    let within : length followed ≤ length steps = omega (arith, same) in
    is ∙ ap (map as_followed) (sym (take-append-le (length followed) steps added within))

-- nothing is followed at an empty trail
pub none_followed : (steps : List Step) (followed : List Followed) → followed ≡ []
    → AreFollowed steps followed
none_followed steps followed none =
    subst (AreFollowed steps) (sym none) refl

-- the clauses were propagated
pub right_propagated : {meaning : Meaning} {followed : List Followed} {old new : Searched}
    {defined : List (List Lit)} → IsRight meaning followed old defined → HasPropagated old new
    → IsRight meaning followed new defined
right_propagated {meaning} {followed} {old} {new} {defined} is by =
    right_moved meaning meaning followed followed old new defined (same_itself meaning) is
    (by.dead ∙ is.alive) by.clauses by.extends.vars
    (subst (λ steps. AreFollowed steps followed) (sym by.extends.steps)
    (followed_more old.trail.steps by.extends.added followed is.follows))

-- the theory was asked at the trail
pub right_asked : {one two : Meaning} {before after : List Followed} {state : Searched}
    {defined : List (List Lit)} {trail : Assigned} → IsRight one before state defined
    → MeansTheSame one two → trail ≡ state.trail → AreFollowed trail.steps after
    → IsRight two after state defined
right_asked {one} {two} {before} {after} {state} {defined} {trail} is same at follows =
    right_moved one two before after state state defined same is is.alive refl refl
    (subst (λ t. AreFollowed t.steps after) at follows)

-- a state with an assignment put last
abbrev pub pushed : Searched → Step → Searched
pushed state step =
    record state {
      trail = record state.trail { steps = state.trail.steps ++ step ∷ [] };
    }

-- an assignment comes last
pub right_pushed : (meaning : Meaning) (followed : List Followed) (old new : Searched)
    (defined : List (List Lit)) (step : Step) → IsRight meaning followed old defined
    → new ≡ pushed old step → IsRight meaning followed new defined
right_pushed meaning followed old new defined step is set =
    right_moved meaning meaning followed followed old new defined (same_itself meaning) is
    (ap (λ s. s.dead) set ∙ is.alive) (ap (λ s. s.clauses) set) (ap (λ s. s.trail.vars) set)
    (subst (λ s. AreFollowed s.trail.steps followed) (sym set)
    (followed_more old.trail.steps (step ∷ []) followed is.follows))

-- what a theory gave it gives where it means the same
pub given_same : (one two : Meaning) (trail : Assigned) (clause : List Lit)
    → MeansTheSame one two → IsGiven one trail clause → IsGiven two trail clause
given_same one two trail clause same is =
    record {
      may = (same.may_give clause).0 is.may;
      holds = λ values model. is.holds values ((same.models values).1 model);
      once = is.once;
      over = is.over;
      standing = is.standing;
    }
