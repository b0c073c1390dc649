-- What the assignments before a place say, and the levels there.
use Rattle.std.proofs.Common.{◌≡◌, ◌≢◌, ℕ, ◌+◌, ◌<◌, ◌≤◌, Bool, true, false, cond, eqb, List, []}
use Rattle.std.proofs.Common.{◌∷◌, ◌++◌, length, take, drop, get_or, Option, Some, None, refl, sym}
use Rattle.std.proofs.Common.{ap, ◌∙◌, subst, inl, inr, arith}
use Rattle.std.specs.Prelude.{All, Contains, find, slice_get, option_map, unwrap_or}
use Rattle.std.proofs.lemmas.Bool.{cases_eq, eqb-true, eqb-false}
use Rattle.std.proofs.lemmas.List.{take-append-drop, take_more, get_or-take, length-take-le}
use Rattle.std.proofs.lemmas.List.Elements.{All-cons, All-nil, All-weaker, All-contains, All-take}
use Rattle.std.proofs.lemmas.Option.{same_Some, slice_get_within, get_or_from_slice_get}
use Rattle.clause_store.specs.declared.literal.Lit.{Lit}
use Rattle.clause_store.specs.declared.literal.Value.TheVariants.{Yes, No}
use Rattle.clause_store.specs.declared.step.Step.{Step}
use Rattle.clause_store.specs.Clause.{variable, negation, IsOver}
use Rattle.clause_store.specs.Trail.{Assigned, IsTrail, step_of, value_by, level_of, present_level}
use Rattle.clause_store.specs.Trail.{next_level, RisesFrom}
use Rattle.clause_store.proofs.LiteralLemmas.{has_later, lit_of_code}
use Rattle.clause_store.proofs.TrailLemmas.{find_passes}
use Rattle.clause_store.proofs.StepLemmas.{rises_front, present_end, last_unset, step_of_new}
use Rattle.clause_store.proofs.ArrayLemmas.{other_variable}
use Rattle.clause_store.specs.Standing.{IsFalse}
use Rattle.conflict_learning.specs.Analysis.{level_at}

-- an assignment, for reads past the end
abbrev pub blank : Step
blank = record { lit = record { 0 = 0 }; reason = None; level = 0 }

-- ---- finding

find_stays : {X : Type 0} (p : X → Bool) (xs ys : List X) (x : X) → find p xs ≡ Some x
    → find p (xs ++ ys) ≡ Some x
find_stays p [] ys x is = absurd (cc)
find_stays p (y ∷ xs) ys x is = go (p y) is (find_stays p xs ys x)
  where
    go : (b : Bool) → cond b (Some y) (find p xs) ≡ Some x
        → (find p xs ≡ Some x → find p (xs ++ ys) ≡ Some x)
        → cond b (Some y) (find p (xs ++ ys)) ≡ Some x
    go true found rest = found
    go false later rest = rest later

find_here : {X : Type 0} (p : X → Bool) (xs : List X) (x : X) → find p xs ≡ Some x → Contains xs x
find_here p [] x is = absurd (cc)
find_here p (y ∷ xs) x is = go (p y) is (find_here p xs x)
  where
    go : (b : Bool) → cond b (Some y) (find p xs) ≡ Some x → (find p xs ≡ Some x → Contains xs x)
        → Contains (y ∷ xs) x
    go true found rest = (0, omega arith, same_Some y x found)
    go false later rest = has_later y x xs (rest later)

-- an element at a place
pub here_at : {X : Type 0} (xs : List X) (at : ℕ) (x : X) → slice_get xs at ≡ Some x → Contains xs x
here_at xs at x is = (at, slice_get_within xs at x is, get_or_from_slice_get xs at x x is)

-- the assignment of a variable in a front is the one in the whole
pub step_of_before : (n : ℕ) (steps : List Step) (var : ℕ) (step : Step)
    → step_of (take n steps) var ≡ Some step → step_of steps var ≡ Some step
step_of_before n steps var step is =
    subst (λ xs. step_of xs var ≡ Some step) (take-append-drop n steps)
    (find_stays (λ s. eqb (variable s.lit) var) (take n steps) (drop n steps) step is)

-- ---- false literals

-- the assignment that makes a literal false
pub record IsRefuter (steps : List Step) (lit : Lit) : Type 0 where
  pub step : Step
  pub found : step_of steps (variable lit) ≡ Some step
  pub here : Contains steps step
  pub same : variable step.lit ≡ variable lit
  pub negates : step.lit ≡ negation lit

-- the assignment that makes a literal false
pub refuter : (steps : List Step) (lit : Lit) → IsFalse steps lit → IsRefuter steps lit
refuter steps lit is = go (step_of steps (variable lit)) refl is
  where
    differs : (step : Step) (b : Bool) → eqb step.lit.0 lit.0 ≡ b → cond b Yes No ≡ No
        → step.lit.0 ≢ lit.0
    differs step true same made = absurd (cc)
    differs step false other _ = eqb-false step.lit.0 lit.0 other

    go : (o : Option Step) → step_of steps (variable lit) ≡ o → value_by o lit ≡ No
        → IsRefuter steps lit
    go None is made = absurd (cc)
    go (Some step) is made =
        let same : variable step.lit ≡ variable lit =
        eqb-true (variable step.lit) (variable lit)
        (find_passes (λ s. eqb (variable s.lit) (variable lit)) steps step is) in
        record {
          step = step;
          found = is;
          here = find_here (λ s. eqb (variable s.lit) (variable lit)) steps step is;
          same = same;
          negates = elim (cases_eq step.lit.0 (negation lit).0) [
            | inl code ↦ lit_of_code step.lit (negation lit) code
            | inr other ↦ absurd
                (other_variable lit step.lit.0 (differs step (eqb step.lit.0 lit.0) refl made) other
                (sym same))
          ];
        }

-- what is false by the earlier assignments is false
pub false_later : (n : ℕ) (steps : List Step) (lit : Lit) → IsFalse (take n steps) lit
    → IsFalse steps lit
false_later n steps lit is =
    let by = refuter (take n steps) lit is in
    ap (λ o. value_by o lit) (step_of_before n steps (variable lit) by.step by.found)
    ∙ sym (ap (λ o. value_by o lit) by.found) ∙ is

-- its variable is one of the trail
pub false_over : (trail : Assigned) (lit : Lit) → IsTrail trail → IsFalse trail.steps lit
    → IsOver trail.vars lit
false_over trail lit is wrong =
    let by = refuter trail.steps lit wrong in
    let over = All-contains (λ s. IsOver trail.vars s.lit) trail.steps by.step is.over by.here in
    record { first = omega (arith, over.first, by.same); last = omega (arith, over.last, by.same) }

-- ---- levels

rises_before : (level : ℕ) (xs ys : List Step) → RisesFrom level (xs ++ ys) → RisesFrom level xs
rises_before level [] ys rises = tt
rises_before level (x ∷ xs) ys rises = (rises.0, rises_before x.level xs ys rises.1)

-- no assignment is above the present level
pub below_present : (steps : List Step) → All (λ step. step.level ≤ present_level steps) steps
below_present [] = All-nil (λ step. step.level ≤ present_level [])
below_present (first ∷ rest) =
    All-cons (λ step. step.level ≤ present_level (first ∷ rest)) first rest (omega arith)
    (All-weaker (λ step. step.level ≤ present_level rest)
    (λ step. step.level ≤ present_level (first ∷ rest)) (λ step below. omega (arith, below))
    rest (below_present rest))

pub take_there : {X : Type 0} (xs : List X) (at : ℕ) (x : X) → slice_get xs at ≡ Some x
    → take (at + 1) xs ≡ take at xs ++ x ∷ []
take_there xs at x is =
    take_more xs at x (slice_get_within xs at x is)
    ∙ ap (λ y. take at xs ++ y ∷ []) (get_or_from_slice_get xs at x x is)

-- the earlier assignments are a trail
pub trail_before : (trail : Assigned) (n : ℕ) → IsTrail trail → n ≤ length trail.steps
    → IsTrail (record { vars = trail.vars; steps = take n trail.steps })
trail_before trail n is within =
    record {
      over = All-take (λ s. IsOver trail.vars s.lit) n trail.steps is.over;
      once = λ i j d before inside.
          let last : j < n = omega (arith, length-take-le n trail.steps within) in
          let first : i < n = omega arith in
          subst (λ s. variable s.lit ≢ variable (get_or (take n trail.steps) j d).lit)
          (sym (get_or-take n trail.steps i d first))
          (subst (λ s. variable (get_or trail.steps i d).lit ≢ variable s.lit)
          (sym (get_or-take n trail.steps j d last))
          (is.once i j d before (omega arith)));
      levels =
          rises_before 0 (take n trail.steps) (drop n trail.steps)
          (subst (RisesFrom 0) (sym (take-append-drop n trail.steps)) is.levels);
    }

-- what is known of the assignment at a place
pub record IsStepAt (trail : Assigned) (at : ℕ) (step : Step) : Type 0 where
  pub with_it : IsTrail (record { vars = trail.vars; steps = take at trail.steps ++ step ∷ [] })
  pub level : step.level ≡ next_level (present_level (take at trail.steps)) step.reason
  pub before : step_of (take at trail.steps) (variable step.lit) ≡ None
  pub found : step_of trail.steps (variable step.lit) ≡ Some step
  pub over : IsOver trail.vars step.lit

pub step_at : (trail : Assigned) (at : ℕ) (step : Step) → IsTrail trail
    → slice_get trail.steps at ≡ Some step → IsStepAt trail at step
step_at trail at step is there =
    let within : at + 1 ≤ length trail.steps =
    omega (arith, slice_get_within trail.steps at step there) in
    let with_it : IsTrail (record { vars = trail.vars; steps = take at trail.steps ++ step ∷ [] }) =
    subst (λ s. IsTrail (record { vars = trail.vars; steps = s }))
    (take_there trail.steps at step there) (trail_before trail (at + 1) is within) in
    let rises = rises_front 0 (take at trail.steps) step with_it.levels in
    let before : step_of (take at trail.steps) (variable step.lit) ≡ None =
    last_unset trail.vars (take at trail.steps) step with_it in
    record {
      with_it = with_it;
      level =
          rises.1 ∙ ap (λ level. next_level level step.reason)
          (sym (present_end (take at trail.steps) rises.0));
      before = before;
      found = step_of_before (at + 1) trail.steps (variable step.lit) step
          (subst (λ s. step_of s (variable step.lit) ≡ Some step)
          (sym (take_there trail.steps at step there))
          (step_of_new (take at trail.steps) step before));
      over =
          All-contains (λ s. IsOver trail.vars s.lit) trail.steps step is.over
          (here_at trail.steps at step there);
    }

-- a level that was found
pub level_found : (steps : List Step) (lit : Lit) (step : Step)
    → step_of steps (variable lit) ≡ Some step
    → (level_at steps lit ≡ step.level) × (level_of steps (variable lit) ≡ Some step.level)
level_found steps lit step found =
    let is : level_of steps (variable lit) ≡ Some step.level =
    ap (option_map (λ s. s.level)) found in
    (ap (λ o. unwrap_or o 0) is, is)
