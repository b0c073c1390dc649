-- What the known assignments make true and false.
use Rattle.std.proofs.Common.{◌≡◌, ◌≢◌, ◌≤◌, ◌<◌, ℕ, zero, suc, Bool, cond, eqb}
use Rattle.std.proofs.Common.{List, [], ◌∷◌, ◌++◌, length, length-append, get_or, map, Option, Some}
use Rattle.std.proofs.Common.{None, refl, sym, ap, subst, ◌∙◌, arith, inl, inr}
use Rattle.std.specs.Prelude.{Any, IsSomeAnd, find, option_map}
use Rattle.std.proofs.lemmas.Bool.{cases_Bool, eqb-true, ne_eqb, eq-eqb}
use Rattle.std.proofs.lemmas.Option.{same_Some}
use Rattle.std.proofs.lemmas.List.{get_or_append_left, get_or-map, length-map, map-append}
use Rattle.clause_store.specs.declared.literal.Lit.{Lit}
use Rattle.clause_store.specs.declared.literal.Value.TheVariants.{Yes, No, Unset}
use Rattle.clause_store.specs.declared.step.Step.{Step}
use Rattle.clause_store.specs.Clause.{variable, negation}
use Rattle.clause_store.specs.Laws.{IsAssignedBy}
use Rattle.clause_store.specs.Trail.{Assigned, IsTrail, step_of, value_by, value_of, present_level}
use Rattle.clause_store.specs.Standing.{Followed, as_followed}
use Rattle.clause_store.proofs.LiteralLemmas.{lit_of_code}
use Rattle.clause_store.proofs.StepLemmas.{step_of_unset, value_of_new}
use Rattle.propagator.proofs.HoldLemmas.{assigned_yes}
use Rattle.watched_literals.specs.Watching.{AreNone, IsPair, IsRow, IsTrueBy}

abbrev no_step : Step
no_step = record { lit = record { 0 = 0 }; reason = None; level = 0 }

-- what is found is there
pub find_here : {X : Type 0} (p : X → Bool) (xs : List X) (x : X) → find p xs ≡ Some x
    → (k : ℕ) × (k < length xs) × (get_or xs k x ≡ x)
find_here p [] x is = absurd (cc)
find_here p (y ∷ xs) x is =
    elim (cases_Bool (p y)) [
      | inl passes ↦ (
        0,
        omega arith,
        same_Some y x (sym (ap (λ b. cond b (Some y) (find p xs)) passes) ∙ is),
      )
      | inr fails ↦
          let rest =
          find_here p xs x (sym (ap (λ b. cond b (Some y) (find p xs)) fails) ∙ is) in
          (suc rest.0, omega (arith, rest.1), rest.2)
    ]

-- no assignment is of a higher level than the present one
pub level_below : (steps : List Step) (k : ℕ) (d : Step) → k < length steps
    → (get_or steps k d).level ≤ present_level steps
level_below [] k d within = absurd (omega (arith, within))
level_below (step ∷ steps) zero d within = omega arith
level_below (step ∷ steps) (suc k) d within =
    let rest : (get_or steps k d).level ≤ present_level steps =
    level_below steps k d (omega (arith, within)) in
    omega arith

-- an assignment as it is known
pub known_is : (steps : List Step) (at : ℕ) (d : Followed) → at < length steps
    → get_or (map as_followed steps) at d ≡ as_followed (get_or steps at no_step)
known_is steps at d within = get_or-map as_followed steps at no_step d within

-- a literal that is true by the known assignments is true on the trail
pub true_yes : (trail : Assigned) (level : ℕ) (lit : Lit) → IsTrail trail
    → IsTrueBy level (map as_followed trail.steps) lit → value_of trail.steps lit ≡ Yes
true_yes trail level lit is (k, f, within, here, p) =
    let inside : k < length trail.steps =
    omega (arith, within, length-map trail.steps as_followed) in
    let same : (get_or trail.steps k no_step).lit ≡ lit =
    ap (λ (it : Followed). it.lit) (sym (known_is trail.steps k f inside) ∙ here) ∙ p.0 in
    subst (λ one. value_of trail.steps one ≡ Yes) same (assigned_yes trail k no_step is inside)

-- and the other way round, where it was assigned at that level or before
yes_true : (steps : List Step) (level : ℕ) (lit : Lit) (o : Option Step)
    → step_of steps (variable lit) ≡ o → value_by o lit ≡ Yes
    → ((step : Step) → o ≡ Some step → step.level ≤ level)
    → IsTrueBy level (map as_followed steps) lit
yes_true steps level lit None found is low = absurd (cc)
yes_true steps level lit (Some step) found is low =
    let at = find_here (λ s. eqb (variable s.lit) (variable lit)) steps step found in
    elim (cases_Bool (eqb step.lit.0 lit.0)) [
      | inl same ↦ (
        at.0,
        as_followed step,
        omega (arith, at.1, length-map steps as_followed),
        get_or-map as_followed steps at.0 step (as_followed step) at.1 ∙ ap as_followed at.2,
        (lit_of_code step.lit lit (eqb-true step.lit.0 lit.0 same), low step refl),
      )
      | inr other ↦ absurd (let e = sym (ap (λ b. cond b Yes No) other) ∙ is in cc)
    ]

-- where it was assigned at the level or before
pub yes_by : (steps : List Step) (level : ℕ) (lit : Lit) → value_of steps lit ≡ Yes
    → IsAssignedBy level steps lit → IsTrueBy level (map as_followed steps) lit
yes_by steps level lit is by =
    yes_true steps level lit (step_of steps (variable lit)) refl is
    (λ step found. subst (λ o. IsSomeAnd (option_map (λ s. s.level) o) (λ at. at ≤ level)) found by)

-- or where the present level isn't higher
pub yes_present : (steps : List Step) (level : ℕ) (lit : Lit) → value_of steps lit ≡ Yes
    → present_level steps ≤ level → IsTrueBy level (map as_followed steps) lit
yes_present steps level lit is below =
    yes_true steps level lit (step_of steps (variable lit)) refl is
    (λ step found. let at =
    find_here (λ s. eqb (variable s.lit) (variable lit)) steps step found in
    omega (
      arith,
      level_below steps at.0 step at.1,
      ap (λ (s : Step). s.level) at.2,
      below,
    ))

-- ---- negations

pub negation_differs : (lit : Lit) → (negation lit).0 ≢ lit.0
negation_differs lit = λ same. grind (arith, same)

pub negation_variable : (lit : Lit) → variable (negation lit) ≡ variable lit
negation_variable lit = grind arith

pub negation_twice : (lit : Lit) → negation (negation lit) ≡ lit
negation_twice lit = lit_of_code (negation (negation lit)) lit (grind arith)

-- a literal whose negation was assigned is false
pub made_false : (trail : Assigned) (at : ℕ) (d : Followed) (lit : Lit) → IsTrail trail
    → at < length trail.steps → (get_or (map as_followed trail.steps) at d).lit ≡ negation lit
    → value_of trail.steps lit ≡ No
made_false trail at d lit is within makes =
    go (step_of trail.steps (variable lit)) refl
  where
    step : Step
    step = get_or trail.steps at no_step

    same : step.lit ≡ negation lit
    same = ap (λ (it : Followed). it.lit) (sym (known_is trail.steps at d within)) ∙ makes

    yes_other : value_of trail.steps (negation lit) ≡ Yes
    yes_other =
        subst (λ one. value_of trail.steps one ≡ Yes) same (assigned_yes trail at no_step is within)

    yes_by_step : value_by (step_of trail.steps (variable lit)) (negation lit) ≡ Yes
    yes_by_step =
        ap (λ var. value_by (step_of trail.steps var) (negation lit))
        (sym (negation_variable lit))
        ∙ yes_other

    go : (o : Option Step) → step_of trail.steps (variable lit) ≡ o
        → value_of trail.steps lit ≡ No
    go None found =
        absurd (let e = sym (ap (λ o. value_by o (negation lit)) found) ∙ yes_by_step in cc)
    go (Some one) found =
        let here : value_by (Some one) (negation lit) ≡ Yes =
        sym (ap (λ o. value_by o (negation lit)) found) ∙ yes_by_step in
        elim (cases_Bool (eqb one.lit.0 (negation lit).0)) [
          | inl equal ↦
              ap (λ o. value_by o lit) found
              ∙ ap (λ b. cond b Yes No)
              (ne_eqb one.lit.0 lit.0
              (λ e. negation_differs lit
              (sym (eqb-true one.lit.0 (negation lit).0 equal) ∙ e)))
          | inr other ↦ absurd (let e = sym (ap (λ b. cond b Yes No) other) ∙ here in cc)
        ]

-- ---- more assignments

any_left : {X : Type 0} (P : X → Type 0) (xs ys : List X) → Any P xs → Any P (xs ++ ys)
any_left P xs ys (k, x, within, is, p) = (
  k,
  x,
  omega (arith, within, length-append xs ys),
  get_or_append_left xs ys x k within ∙ is,
  p,
)

-- a literal stays true when assignments come last
pub true_more : (steps added : List Step) (level : ℕ) (lit : Lit)
    → IsTrueBy level (map as_followed steps) lit
    → IsTrueBy level (map as_followed (steps ++ added)) lit
true_more steps added level lit is =
    subst (Any (λ (it : Followed). (it.lit ≡ lit) × (it.level ≤ level)))
    (sym (map-append as_followed steps added))
    (any_left (λ (it : Followed). (it.lit ≡ lit) × (it.level ≤ level)) (map as_followed steps)
    (map as_followed added) is)

-- a literal that is assigned is true
pub newly_yes : (steps : List Step) (step : Step) → value_of steps step.lit ≡ Unset
    → value_of (steps ++ step ∷ []) step.lit ≡ Yes
newly_yes steps step unset =
    value_of_new steps step step.lit (step_of_unset steps step.lit unset) refl
    ∙ ap (λ b. cond b Yes No) (eq-eqb step.lit.0 step.lit.0 refl)

-- ---- the literals at which a clause is watched

-- two literals of a clause aren't both of the code that none has
pub none_apart : (lits : List Lit) (one two : Lit) → IsPair lits one two → ¬ AreNone one two
none_apart lits one two pair none_is =
    pair.differ (lit_of_code one two (none_is.one_none ∙ sym none_is.two_none))

-- what is true for good may be known otherwise
pub row_maps : (old new : List Followed) (lits : List Lit) (saved : ℕ) (one two : Lit)
    → ((lit : Lit) → IsTrueBy 0 old lit → IsTrueBy 0 new lit)
    → IsRow old lits saved one two → IsRow new lits saved one two
row_maps old new lits saved one two maps (inl is) =
    inl (record {
      pair = is.pair;
      binary =
          λ none_is k d within not_one not_two. maps (negation (get_or lits k d))
          (is.binary none_is k d within not_one not_two);
    })
row_maps old new lits saved one two maps (inr none_is) = inr none_is
