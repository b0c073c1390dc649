-- The place of a variable's assignment, and the assignment that stands there.
use Rattle.std.proofs.Common.{◌≡◌, ◌≢◌, ℕ, ◌<◌, ◌≤◌, Bool, false, cond, eqb, List, [], ◌∷◌, ◌++◌}
use Rattle.std.proofs.Common.{length, get_or, Option, Some, None, refl, sym, ap, ◌∙◌, subst, inl}
use Rattle.std.proofs.Common.{inr, arith}
use Rattle.std.specs.Prelude.{nat_lt, slice_get, option_and_then}
use Rattle.std.specs.List.{position_or_len}
use Rattle.std.proofs.lemmas.Bool.{cases_lt, eqb-true, eq-eqb, ne_eqb, lt-ltb, le-ltb}
use Rattle.std.proofs.lemmas.Option.{slice_get-get_or, slice_get_past, slice_get_within}
use Rattle.std.proofs.lemmas.Option.{get_or_from_slice_get}
use Rattle.std.proofs.lemmas.List.{get_or_append_left}
use Rattle.std.proofs.lemmas.List.Folds.{find_at}
use Rattle.std.proofs.lemmas.List.Sums.{position_or_len_is, passes_at_first, fails_before_first}
use Rattle.std.proofs.lemmas.List.Quantifiers.{position-Some}
use Rattle.clause_store.specs.declared.step.Step.{Step}
use Rattle.clause_store.specs.Clause.{variable}
use Rattle.clause_store.specs.Trail.{Assigned, IsTrail, step_of, place_of}
use Rattle.clause_store.proofs.TrailLemmas.{slice_get-append}
use Rattle.clause_store.proofs.StepLemmas.{blank, none_found, step_of_other}
use Rattle.clause_store.proofs.ReasonLemmas.{slice_get-seam}

-- whether an assignment is that of a variable
abbrev pub is_of : ℕ → Step → Bool
is_of var step = eqb (variable step.lit) var

-- what is at a place, if it is within a list of so many
abbrev within : ℕ → ℕ → Option ℕ
within count place = cond (nat_lt place count) (Some place) None

inside : (count place : ℕ) → place < count → within count place ≡ Some place
inside count place below = ap (λ b. cond b (Some place) None) (lt-ltb place count below)

past : (count place : ℕ) → count ≤ place → within count place ≡ None
past count place above = ap (λ b. cond b (Some place) None) (le-ltb place count above)

-- the assignment of a variable stands at its place
pub step_of_is : (steps : List Step) (var : ℕ)
    → step_of steps var ≡ option_and_then (slice_get steps) (place_of steps var)
step_of_is steps var =
    find_at (is_of var) steps
    ∙ elim (cases_lt (position_or_len (is_of var) steps) (length steps)) [
      | inl below ↦ sym
          (ap (option_and_then (slice_get steps))
          (inside (length steps) (position_or_len (is_of var) steps) below))
      | inr above ↦
          slice_get_past steps (position_or_len (is_of var) steps) above
          ∙ sym
          (ap (option_and_then (slice_get steps))
          (past (length steps) (position_or_len (is_of var) steps) above))
    ]

-- what stands at the place of a variable is its assignment
pub place_holds : (steps : List Step) (var place : ℕ) → place_of steps var ≡ Some place
    → (step : Step) × (slice_get steps place ≡ Some step) × (variable step.lit ≡ var)
    × (step_of steps var ≡ Some step)
place_holds steps var place is =
    let at = position-Some (is_of var) steps place blank is in
    let there : slice_get steps place ≡ Some (get_or steps place blank) =
    slice_get-get_or steps place blank at.0 in (
      get_or steps place blank,
      there,
      eqb-true (variable (get_or steps place blank).lit) var at.1,
      step_of_is steps var ∙ ap (option_and_then (slice_get steps)) is ∙ there,
    )

-- an unset variable has no place
pub place_of_none : (steps : List Step) (var : ℕ) → step_of steps var ≡ None
    → place_of steps var ≡ None
place_of_none steps var none =
    elim (cases_lt (position_or_len (is_of var) steps) (length steps)) [
      | inl below ↦
          let there : slice_get steps (position_or_len (is_of var) steps)
          ≡ Some (get_or steps (position_or_len (is_of var) steps) blank) =
          slice_get-get_or steps (position_or_len (is_of var) steps) blank below in
          absurd (cc (find_at (is_of var) steps))
      | inr above ↦ past (length steps) (position_or_len (is_of var) steps) above
    ]

-- the first assignment of a variable is at its place
pub place_is : (steps : List Step) (var place : ℕ) (step : Step) → slice_get steps place ≡ Some step
    → variable step.lit ≡ var
    → ((k : ℕ) → k < place → is_of var (get_or steps k blank) ≡ false)
    → place_of steps var ≡ Some place
place_is steps var place step there same before =
    let below : place < length steps = slice_get_within steps place step there in
    let low : place ≤ length steps = omega arith in
    let first : position_or_len (is_of var) steps ≡ place =
    position_or_len_is (is_of var) steps place blank low before
    (λ h. ap (is_of var) (get_or_from_slice_get steps place step blank there)
    ∙ eq-eqb (variable step.lit) var same) in
    ap (within (length steps)) first ∙ inside (length steps) place below

-- on a trail there is no other
pub place_of_at : (trail : Assigned) (place : ℕ) (step : Step) → IsTrail trail
    → slice_get trail.steps place ≡ Some step
    → place_of trail.steps (variable step.lit) ≡ Some place
place_of_at trail place step is there =
    let below : place < length trail.steps = slice_get_within trail.steps place step there in
    place_is trail.steps (variable step.lit) place step there refl
    (λ k first.
    ne_eqb (variable (get_or trail.steps k blank).lit) (variable step.lit)
    (subst (λ s. variable (get_or trail.steps k blank).lit ≢ variable s.lit)
    (get_or_from_slice_get trail.steps place step blank there)
    (is.once k place blank first below)))

-- ---- one assignment more

-- the new one is the last
pub place_of_new : (steps : List Step) (step : Step) → step_of steps (variable step.lit) ≡ None
    → place_of (steps ++ step ∷ []) (variable step.lit) ≡ Some (length steps)
place_of_new steps step none =
    place_is (steps ++ step ∷ []) (variable step.lit) (length steps) step
    (slice_get-seam steps step) refl
    (λ k first.
    subst (λ s. is_of (variable step.lit) s ≡ false)
    (sym (get_or_append_left steps (step ∷ []) blank k first))
    (none_found (is_of (variable step.lit)) steps none k blank first))

-- other variables keep their places
pub place_of_other : (steps : List Step) (step : Step) (var : ℕ) → variable step.lit ≢ var
    → place_of (steps ++ step ∷ []) var ≡ place_of steps var
place_of_other steps step var other =
    elim (cases_lt (position_or_len (is_of var) steps) (length steps)) [
      | inl below ↦
          place_is (steps ++ step ∷ []) var (position_or_len (is_of var) steps)
          (get_or steps (position_or_len (is_of var) steps) blank)
          (slice_get-append steps (step ∷ []) (position_or_len (is_of var) steps)
          (get_or steps (position_or_len (is_of var) steps) blank)
          (slice_get-get_or steps (position_or_len (is_of var) steps) blank below))
          (eqb-true (variable (get_or steps (position_or_len (is_of var) steps) blank).lit) var
          (passes_at_first (is_of var) steps blank below))
          (λ k first.
          let early : k < length steps = omega arith in
          subst (λ s. is_of var s ≡ false)
          (sym (get_or_append_left steps (step ∷ []) blank k early))
          (fails_before_first (is_of var) steps k blank first))
          ∙ sym (inside (length steps) (position_or_len (is_of var) steps) below)
      | inr above ↦
          place_of_none (steps ++ step ∷ []) var
          (step_of_other steps step var other ∙ find_at (is_of var) steps
          ∙ slice_get_past steps (position_or_len (is_of var) steps) above)
          ∙ sym (past (length steps) (position_or_len (is_of var) steps) above)
    ]

-- places are among the assignments
pub place_within : (steps : List Step) (var place : ℕ) → place_of steps var ≡ Some place
    → place < length steps
place_within steps var place is = (position-Some (is_of var) steps place blank is).0

-- the assignment that was read at the place of its variable
pub step_read : (items steps : List Step) (var place : ℕ) (read : Step) → items ≡ steps
    → place_of steps var ≡ Some place → read ≡ get_or items place read
    → Some read ≡ step_of steps var
step_read items steps var place read same at is =
    let below : place < length steps = place_within steps var place at in
    ap Some (is ∙ ap (λ s. get_or s place read) same)
    ∙ sym (slice_get-get_or steps place read below)
    ∙ sym (ap (option_and_then (slice_get steps)) at) ∙ sym (step_of_is steps var)

-- no place, no assignment
pub step_lacking : (steps : List Step) (var : ℕ) → place_of steps var ≡ None
    → None ≡ step_of steps var
step_lacking steps var none =
    sym (step_of_is steps var ∙ ap (option_and_then (slice_get steps)) none)
