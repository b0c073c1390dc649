-- One assignment more or less at the end of a trail: what the answers are then.
use Rattle.std.proofs.Common.{◌≡◌, ◌≢◌, ℕ, suc, ◌+◌, ◌-◌, ◌<◌, ◌≤◌, max, Bool, true, false, cond}
use Rattle.std.proofs.Common.{eqb, List, [], ◌∷◌, ◌++◌, length, map, get_or, Option, Some, None}
use Rattle.std.proofs.Common.{refl, sym, ap, ◌∙◌, subst, inl, inr, arith, length-append}
use Rattle.std.specs.Prelude.{All, AllPairs, find}
use Rattle.std.proofs.lemmas.Bool.{cases_eq, eqb-true, eqb-false, eq-eqb, ne_eqb}
use Rattle.std.proofs.lemmas.List.Elements.{All-cons, All-head, All-tail, All-nil, All-push}
use Rattle.std.proofs.lemmas.List.Quantifiers.{all_pairs_push}
use Rattle.std.proofs.lemmas.List.{get_or_append_left, get_or-map, length-map}
use Rattle.std.proofs.Math.Seq.{get_or-append_seam}
use Rattle.std.specs.List.{list_any}
use Rattle.std.proofs.lemmas.List.Folds.{Any-from_list_any}
use Rattle.std.proofs.lemmas.Map.Steps.{length-le_from_distinct_below}
use Rattle.std.proofs.lemmas.Map.Keys.{IsDistinct-from_apart}
use Rattle.clause_store.specs.declared.literal.Lit.{Lit}
use Rattle.clause_store.specs.declared.literal.ClauseRef.{ClauseRef}
use Rattle.clause_store.specs.declared.literal.Value.{Value}
use Rattle.clause_store.specs.declared.literal.Value.TheVariants.{Yes, No, Unset}
use Rattle.clause_store.specs.declared.step.Step.{Step}
use Rattle.clause_store.specs.Clause.{variable, IsOver}
use Rattle.clause_store.specs.Trail.{Assigned, step_of, value_by, value_of, present_level}
use Rattle.clause_store.specs.Trail.{next_level, RisesFrom, IsTrail}
use Rattle.clause_store.proofs.LiteralLemmas.{coded}

-- ---- the assignment of a variable

-- a test that no element passes finds nothing
pub find_none : {X : Type 0} (p : X → Bool) (xs : List X) → All (λ x. p x ≡ false) xs
    → find p xs ≡ None
find_none p [] none = refl
find_none p (x ∷ xs) none =
    rw (All-head (λ y. p y ≡ false) x xs none)
    (find_none p xs (All-tail (λ y. p y ≡ false) x xs none))

-- and where it finds nothing, none passes
pub none_found : {X : Type 0} (p : X → Bool) (xs : List X) → find p xs ≡ None
    → All (λ x. p x ≡ false) xs
none_found p [] is = All-nil (λ x. p x ≡ false)
none_found p (x ∷ xs) is = go (p x) refl is (none_found p xs)
  where
    go : (b : Bool) → p x ≡ b → cond b (Some x) (find p xs) ≡ None
        → (find p xs ≡ None → All (λ y. p y ≡ false) xs) → All (λ y. p y ≡ false) (x ∷ xs)
    go true passes found rest = absurd (cc)
    go false fails later rest = All-cons (λ y. p y ≡ false) x xs fails (rest later)

-- an element that is found stays found when the list grows
pub find_append : {X : Type 0} (p : X → Bool) (xs ys : List X) → find p xs ≡ None
    → find p (xs ++ ys) ≡ find p ys
find_append p [] ys is = refl
find_append p (x ∷ xs) ys is = go (p x) is (find_append p xs ys)
  where
    go : (b : Bool) → cond b (Some x) (find p xs) ≡ None
        → (find p xs ≡ None → find p (xs ++ ys) ≡ find p ys)
        → cond b (Some x) (find p (xs ++ ys)) ≡ find p ys
    go true found rest = absurd (cc)
    go false later rest = rest later

pub find_push_other : {X : Type 0} (p : X → Bool) (xs : List X) (y : X) → p y ≡ false
    → find p (xs ++ y ∷ []) ≡ find p xs
find_push_other p [] y fails = rw fails refl
find_push_other p (x ∷ xs) y fails = ap (cond (p x) (Some x)) (find_push_other p xs y fails)

-- the new assignment is that of its variable
pub step_of_new : (steps : List Step) (step : Step) → step_of steps (variable step.lit) ≡ None
    → step_of (steps ++ step ∷ []) (variable step.lit) ≡ Some step
step_of_new steps step none =
    find_append (λ s. eqb (variable s.lit) (variable step.lit)) steps (step ∷ []) none
    ∙ ap (λ b. cond b (Some step) None) (eq-eqb (variable step.lit) (variable step.lit) refl)

-- and other variables keep theirs
pub step_of_other : (steps : List Step) (step : Step) (var : ℕ) → variable step.lit ≢ var
    → step_of (steps ++ step ∷ []) var ≡ step_of steps var
step_of_other steps step var other =
    find_push_other (λ s. eqb (variable s.lit) var) steps step
    (ne_eqb (variable step.lit) var other)

-- ---- values

unset_by : (o : Option Step) (lit : Lit) → value_by o lit ≡ Unset → o ≡ None
unset_by None lit is = refl
unset_by (Some step) lit is = go (eqb step.lit.0 lit.0) is
  where
    go : (b : Bool) → cond b Yes No ≡ Unset → Some step ≡ None
    go true is = absurd (cc)
    go false is = absurd (cc)

pub step_of_unset : (steps : List Step) (lit : Lit) → value_of steps lit ≡ Unset
    → step_of steps (variable lit) ≡ None
step_of_unset steps lit is = unset_by (step_of steps (variable lit)) lit is

pub value_of_new : (steps : List Step) (step : Step) (lit : Lit)
    → step_of steps (variable step.lit) ≡ None → variable step.lit ≡ variable lit
    → value_of (steps ++ step ∷ []) lit ≡ cond (eqb step.lit.0 lit.0) Yes No
value_of_new steps step lit none same =
    ap (λ o. value_by o lit)
    (ap (step_of (steps ++ step ∷ [])) (sym same) ∙ step_of_new steps step none)

pub value_of_other : (steps : List Step) (step : Step) (lit : Lit)
    → variable step.lit ≢ variable lit → value_of (steps ++ step ∷ []) lit ≡ value_of steps lit
value_of_other steps step lit other =
    ap (λ o. value_by o lit) (step_of_other steps step (variable lit) other)

-- a literal with a value keeps it
pub value_of_kept : (steps : List Step) (step : Step) (lit : Lit) (value : Value)
    → step_of steps (variable step.lit) ≡ None → value ≢ Unset → value_of steps lit ≡ value
    → value_of (steps ++ step ∷ []) lit ≡ value
value_of_kept steps step lit value none set is =
    elim (cases_eq (variable step.lit) (variable lit)) [
      | inl same ↦ absurd
          (set (sym is ∙ ap (λ o. value_by o lit) (ap (step_of steps) (sym same) ∙ none)))
      | inr other ↦ value_of_other steps step lit other ∙ is
    ]

-- ---- levels

-- the level after some assignments
abbrev pub end_level : ℕ → List Step → ℕ
end_level level [] = level
end_level level (step ∷ rest) = end_level step.level rest

pub next_level-ge : (level : ℕ) (reason : Option ClauseRef) → level ≤ next_level level reason
next_level-ge level None = omega arith
next_level-ge level (Some why) = omega arith

pub next_level-le : (level : ℕ) (reason : Option ClauseRef) → next_level level reason ≤ level + 1
next_level-le level None = omega arith
next_level-le level (Some why) = omega arith

pub present_is_end : (level : ℕ) (steps : List Step) → RisesFrom level steps
    → max level (present_level steps) ≡ end_level level steps
present_is_end level [] rises = omega arith
present_is_end level (step ∷ rest) rises =
    let rest_is : max step.level (present_level rest) ≡ end_level step.level rest =
    present_is_end step.level rest rises.1 in
    let ge : level ≤ step.level =
    subst (λ n. level ≤ n) (sym rises.0) (next_level-ge level step.reason) in
    omega arith

pub end_level-push : (level : ℕ) (steps : List Step) (step : Step)
    → end_level level (steps ++ step ∷ []) ≡ step.level
end_level-push level [] step = refl
end_level-push level (first ∷ rest) step = end_level-push first.level rest step

pub rises_push : (level : ℕ) (steps : List Step) (step : Step) → RisesFrom level steps
    → step.level ≡ next_level (end_level level steps) step.reason
    → RisesFrom level (steps ++ step ∷ [])
rises_push level [] step rises is = (is, tt)
rises_push level (first ∷ rest) step rises is =
    (rises.0, rises_push first.level rest step rises.1 is)

pub rises_front : (level : ℕ) (steps : List Step) (step : Step)
    → RisesFrom level (steps ++ step ∷ [])
    → RisesFrom level steps × (step.level ≡ next_level (end_level level steps) step.reason)
rises_front level [] step rises = (tt, rises.0)
rises_front level (first ∷ rest) step rises = let r = rises_front first.level rest step rises.1 in
    ((rises.0, r.0), r.1)

pub present_end : (steps : List Step) → RisesFrom 0 steps → present_level steps ≡ end_level 0 steps
present_end steps rises = let e : max 0 (present_level steps) ≡ end_level 0 steps =
    present_is_end 0 steps rises in omega arith

-- the last assignment has the present level, which is that before or one more
pub present_level-push : (steps : List Step) (step : Step) → RisesFrom 0 (steps ++ step ∷ [])
    → present_level (steps ++ step ∷ []) ≡ step.level
present_level-push steps step rises =
    present_end (steps ++ step ∷ []) rises ∙ end_level-push 0 steps step

pub level_before : (steps : List Step) (step : Step) → RisesFrom 0 (steps ++ step ∷ [])
    → step.level ≤ present_level steps + 1
level_before steps step rises =
    let r = rises_front 0 steps step rises in
    let e : present_level steps ≡ end_level 0 steps = present_end steps r.0 in
    let b : next_level (end_level 0 steps) step.reason ≤ end_level 0 steps + 1 =
    next_level-le (end_level 0 steps) step.reason in
    let s : step.level ≡ next_level (end_level 0 steps) step.reason = r.1 in
    omega arith

-- ---- each variable once

-- a new variable may come
pub once_push : (steps : List Step) (step : Step)
    → AllPairs (λ one two. variable one.lit ≢ variable two.lit) steps
    → step_of steps (variable step.lit) ≡ None
    → AllPairs (λ one two. variable one.lit ≢ variable two.lit) (steps ++ step ∷ [])
once_push steps step once none =
    all_pairs_push (λ one two. variable one.lit ≢ variable two.lit) steps step once
    (λ k d within. eqb-false (variable (get_or steps k d).lit) (variable step.lit)
    (none_found (λ s. eqb (variable s.lit) (variable step.lit)) steps none k d within))

pub trail_push : (vars : ℕ) (steps : List Step) (step : Step)
    → IsTrail (record { vars = vars; steps = steps }) → IsOver vars step.lit
    → step_of steps (variable step.lit) ≡ None
    → step.level ≡ next_level (present_level steps) step.reason
    → IsTrail (record { vars = vars; steps = steps ++ step ∷ [] })
trail_push vars steps step trail over none level =
    record {
      over = All-push (λ s. IsOver vars s.lit) steps step trail.over over;
      once = once_push steps step trail.once none;
      levels =
          rises_push 0 steps step trail.levels
          (level ∙ ap (λ n. next_level n step.reason) (present_end steps trail.levels));
    }

-- the last one goes: what is true of the others
pub trail_front : (vars : ℕ) (steps : List Step) (step : Step)
    → IsTrail (record { vars = vars; steps = steps ++ step ∷ [] })
    → IsTrail (record { vars = vars; steps = steps })
trail_front vars steps step trail =
    record {
      over =
          λ k d within. subst (λ s. IsOver vars s.lit)
          (get_or_append_left steps (step ∷ []) d k within)
          (trail.over k d (omega (arith, length-append steps (step ∷ []))));
      once = λ i j d before within.
          let first : i < length steps = omega arith in
          subst (λ s. variable s.lit ≢ variable (get_or steps j d).lit)
          (get_or_append_left steps (step ∷ []) d i first)
          (subst (λ s. variable (get_or (steps ++ step ∷ []) i d).lit ≢ variable s.lit)
          (get_or_append_left steps (step ∷ []) d j within)
          (trail.once i j d before (omega (arith, length-append steps (step ∷ [])))));
      levels = (rises_front 0 steps step trail.levels).0;
    }

-- its variable is unset then
pub last_unset : (vars : ℕ) (steps : List Step) (step : Step)
    → IsTrail (record { vars = vars; steps = steps ++ step ∷ [] })
    → step_of steps (variable step.lit) ≡ None
last_unset vars steps step trail =
    find_none (λ s. eqb (variable s.lit) (variable step.lit)) steps
    (λ k d within.
    ne_eqb (variable (get_or steps k d).lit) (variable step.lit)
    (subst (λ s. variable s.lit ≢ variable step.lit)
    (get_or_append_left steps (step ∷ []) d k within)
    (subst (λ s. variable (get_or (steps ++ step ∷ []) k d).lit ≢ variable s.lit)
    (get_or-append_seam steps step [] d)
    (trail.once k (length steps) d within (omega (arith, length-append steps (step ∷ [])))))))

-- so there are at most as many assignments as variables
abbrev shifted : Step → ℕ
shifted step = variable step.lit - 1

-- for reading past the end
pub blank : Step
blank = record { lit = coded 0; reason = None; level = 0 }

pub trail_fits : (trail : Assigned) → IsTrail trail → length trail.steps ≤ trail.vars
trail_fits trail is =
    subst (λ n. n ≤ trail.vars) (length-map trail.steps shifted)
    (length-le_from_distinct_below (map shifted trail.steps) trail.vars
    (IsDistinct-from_apart eqb (map shifted trail.steps) apart) below)
  where
    at : (k d : ℕ) → k < length trail.steps
        → get_or (map shifted trail.steps) k d ≡ shifted (get_or trail.steps k blank)
    at k d within = get_or-map shifted trail.steps k blank d within

    over : (k : ℕ) → k < length trail.steps → IsOver trail.vars (get_or trail.steps k blank).lit
    over k within = is.over k blank within

    apart : (i j d : ℕ) → i < j → j < length (map shifted trail.steps)
        → eqb (get_or (map shifted trail.steps) i d) (get_or (map shifted trail.steps) j d) ≡ false
    apart i j d before within =
        let later : j < length trail.steps = omega (arith, length-map trail.steps shifted) in
        let first : i < length trail.steps = omega arith in
        let one = over i first in let two = over j later in
        let differ : variable (get_or trail.steps i blank).lit
        ≢ variable (get_or trail.steps j blank).lit = is.once i j blank before later in
        rw (at i d first, at j d later)
        (ne_eqb (shifted (get_or trail.steps i blank)) (shifted (get_or trail.steps j blank))
        (λ e. differ (omega (arith, one.first, two.first, e))))

    below : (q : ℕ) → list_any (eqb q) (map shifted trail.steps) ≡ true → q < trail.vars
    below q any =
        let some = Any-from_list_any (eqb q) (map shifted trail.steps) any in
        let within : some.0 < length trail.steps =
        omega (arith, some.2, length-map trail.steps shifted) in
        let o = over some.0 within in
        let e : q ≡ shifted (get_or trail.steps some.0 blank) =
        eqb-true q some.1 some.4 ∙ sym some.3 ∙ at some.0 some.1 within in
        omega (arith, e, o.first, o.last)

-- a level is at most the number of assignments
pub end_level-le : (level : ℕ) (steps : List Step) → RisesFrom level steps
    → end_level level steps ≤ level + length steps
end_level-le level [] rises = omega arith
end_level-le level (step ∷ rest) rises =
    let below : end_level step.level rest ≤ step.level + length rest =
    end_level-le step.level rest rises.1 in
    let next : next_level level step.reason ≤ level + 1 = next_level-le level step.reason in
    let is : step.level ≡ next_level level step.reason = rises.0 in
    omega arith

pub level_fits : (trail : Assigned) → IsTrail trail → present_level trail.steps ≤ trail.vars
level_fits trail is =
    let e : present_level trail.steps ≡ end_level 0 trail.steps =
    present_end trail.steps is.levels in
    let b : end_level 0 trail.steps ≤ 0 + length trail.steps =
    end_level-le 0 trail.steps is.levels in
    let f : length trail.steps ≤ trail.vars = trail_fits trail is in
    omega arith

-- the last assignment has the present level
pub last_level : (level : ℕ) (steps : List Step) (d : Step) → 1 ≤ length steps
    → (get_or steps (length steps - 1) d).level ≡ end_level level steps
last_level level [] d some = absurd (omega (arith, some))
last_level level (step ∷ []) d some = refl
last_level level (step ∷ next ∷ rest) d some =
    let n : length (step ∷ next ∷ rest) - 1 ≡ suc (length (next ∷ rest) - 1) = omega arith in
    ap (λ k. (get_or (step ∷ next ∷ rest) k d).level) n
    ∙ last_level step.level (next ∷ rest) d (omega arith)
