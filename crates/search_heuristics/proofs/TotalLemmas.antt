-- A trail is total exactly where it has as many assignments as variables.
use Rattle.std.proofs.Common.{◌≡◌, ℕ, ◌+◌, ◌-◌, ◌*◌, ◌≤◌, Bool, true, false, cond, eqb}
use Rattle.std.proofs.Common.{List, [], ◌∷◌, ◌++◌, length, map, Option, Some, None, refl, ap}
use Rattle.std.proofs.Common.{◌∙◌, subst, inl, inr, arith, length-append}
use Rattle.std.specs.Prelude.{◌||◌, IsSome}
use Rattle.std.specs.List.{list_any}
use Rattle.std.proofs.lemmas.Bool.{cases_eq, false≢true, eq-eqb, ne_eqb}
use Rattle.std.proofs.lemmas.List.{length-map}
use Rattle.std.proofs.lemmas.Map.Steps.{le-length_from_below}
use Rattle.clause_store.specs.declared.step.Step.{Step}
use Rattle.clause_store.specs.Clause.{variable}
use Rattle.clause_store.specs.Trail.{Assigned, IsTotal, IsTrail, present_level, step_of}
use Rattle.clause_store.proofs.LiteralLemmas.{coded}
use Rattle.clause_store.proofs.StepLemmas.{trail_fits, trail_push}

-- with one more than all there would be too many
pub total_by_count : (trail : Assigned) → IsTrail trail → length trail.steps ≡ trail.vars
    → IsTotal trail
total_by_count trail is full var first last = go (step_of trail.steps var) refl
  where
    next : Step
    next = record { lit = coded (2 * var); reason = None; level = present_level trail.steps + 1 }

    go : (o : Option Step) → step_of trail.steps var ≡ o → IsSome o
    go (Some step) found = refl
    go None none =
        let its : variable (coded (2 * var)) ≡ var = omega arith in
        let longer : length (trail.steps ++ next ∷ []) ≤ trail.vars =
        trail_fits (record { vars = trail.vars; steps = trail.steps ++ next ∷ [] })
        (trail_push trail.vars trail.steps next is
        (record { first = omega (arith, its); last = omega (arith, its) })
        (ap (step_of trail.steps) its ∙ none) refl) in
        absurd (omega (arith, longer, full, length-append trail.steps (next ∷ [])))

-- variables counted from 0 on
abbrev numbered : Step → ℕ
numbered step = variable step.lit - 1

-- the number of an assigned variable is among those of the assignments
assigned_among : (number : ℕ) (steps : List Step) → IsSome (step_of steps (number + 1))
    → list_any (eqb number) (map numbered steps) ≡ true
assigned_among number [] some = absurd (false≢true some)
assigned_among number (step ∷ rest) some =
    elim (cases_eq (variable step.lit) (number + 1)) [
      | inl same ↦ rw (eq-eqb number (numbered step) (omega arith)) refl
      | inr other ↦
          let later : list_any (eqb number) (map numbered rest) ≡ true =
          assigned_among number rest
          (subst (λ b. IsSome (cond b (Some step) (step_of rest (number + 1))))
          (ne_eqb (variable step.lit) (number + 1) other) some) in
          go (eqb number (numbered step)) later
    ]
  where
    go : (b : Bool) → list_any (eqb number) (map numbered rest) ≡ true
        → (b || list_any (eqb number) (map numbered rest)) ≡ true
    go true later = refl
    go false later = later

-- and where all variables are assigned there are that many
pub count_of_total : (trail : Assigned) → IsTrail trail → IsTotal trail
    → length trail.steps ≡ trail.vars
count_of_total trail is total =
    let most : length trail.steps ≤ trail.vars = trail_fits trail is in
    let least : trail.vars ≤ length (map numbered trail.steps) =
    le-length_from_below (map numbered trail.steps) trail.vars
    (λ number below. assigned_among number trail.steps
    (total (number + 1) (omega arith) (omega arith))) in
    omega (arith, most, least, length-map trail.steps numbered)
