-- The arrays of a trail hold its answers when an assignment comes or goes.
use Rattle.std.proofs.Common.{◌≡◌, ◌≢◌, ◌⊎◌, ℕ, ◌+◌, ◌*◌, ◌-◌, ◌/◌, ◌%◌, ◌<◌, ◌≤◌, cond, eqb, List}
use Rattle.std.proofs.Common.{[], ◌∷◌, ◌++◌, length, set, get_or, Option, Some, None, refl, sym, ap}
use Rattle.std.proofs.Common.{◌∙◌, subst, inl, inr, arith, length-append, get_or-set_same}
use Rattle.std.proofs.Common.{get_or-set_other}
use Rattle.std.proofs.lemmas.Bool.{cases_Bool, cases_eq, eqb-true, eqb-false, eq-eqb, ne_eqb}
use Rattle.std.proofs.lemmas.List.{length-set}
use Rattle.std.proofs.Math.Seq.{get_or-append_seam}
use Rattle.clause_store.specs.declared.literal.Lit.{Lit}
use Rattle.clause_store.specs.declared.literal.Value.{Value}
use Rattle.clause_store.specs.declared.literal.Value.TheVariants.{Yes, No, Unset}
use Rattle.clause_store.specs.declared.step.Step.{Step}
use Rattle.clause_store.specs.Clause.{variable, negation, IsOver}
use Rattle.clause_store.specs.Trail.{IsTrail, step_of, place_of, value_by, value_of, present_level}
use Rattle.clause_store.specs.Trail.{next_level}
use Rattle.clause_store.specs.Arrays.{IsTable, AreAnswers, IsKept, IsWithoutLast}
use Rattle.clause_store.proofs.LiteralLemmas.{coded, variable-negation}
use Rattle.clause_store.proofs.PlaceLemmas.{place_of_none, place_of_new, place_of_other}
use Rattle.clause_store.proofs.StepLemmas.{step_of_unset, trail_push, trail_front, trail_fits}
use Rattle.clause_store.proofs.StepLemmas.{last_unset, present_level-push, level_before}
use Rattle.clause_store.proofs.StepLemmas.{value_of_new, value_of_other}

-- one answer changes
pub table_set : {X : Type 0} (old new : ℕ → X) (size : ℕ) (table : List X) (i : ℕ) (v : X)
    → IsTable old size table → i < size → new i ≡ v
    → ((k : ℕ) → k < size → k ≢ i → new k ≡ old k) → IsTable new size (set table i v)
table_set old new size table i v is within here others =
    record {
      size_is = length-set table i v ∙ is.size_is;
      answers = λ k d below.
          elim (cases_eq k i) [
            | inl same ↦
                let inside : i < length table = omega (arith, is.size_is) in
                ap (λ n. get_or (set table i v) n d) same ∙ get_or-set_same table i v d inside
                ∙ sym here ∙ ap new (sym same)
            | inr other ↦ get_or-set_other table i k v d other ∙ is.answers k d below
                ∙ sym (others k below other)
          ];
    }

-- two answers change
pub table_set_two : {X : Type 0} (old new : ℕ → X) (size : ℕ) (table : List X) (i : ℕ) (v : X)
    (j : ℕ) (w : X) → IsTable old size table → i < size → j < size → i ≢ j
    → new i ≡ v → new j ≡ w → ((k : ℕ) → k < size → k ≢ i → k ≢ j → new k ≡ old k)
    → IsTable new size (set (set table i v) j w)
table_set_two {X} old new size table i v j w is in_i in_j differ at_i at_j others =
    table_set middle new size (set table i v) j w
    (table_set old middle size table i v is in_i (ap (λ b. cond b v (old i)) (eq-eqb i i refl))
    (λ k below other. ap (λ b. cond b v (old k)) (ne_eqb k i other)))
    in_j at_j
    (λ k below other. elim (cases_eq k i) [
      | inl same ↦ ap new same ∙ at_i ∙ sym (ap (λ b. cond b v (old k)) (eq-eqb k i same))
      | inr another ↦ others k below another other
          ∙ sym (ap (λ b. cond b v (old k)) (ne_eqb k i another))
    ])
  where
    middle : ℕ → X
    middle k = cond (eqb k i) v (old k)

-- the code of the negation is the next one of an even code, and the one before an odd code
negation_code : (lit : Lit) → ((lit.0 % 2 ≡ 1) × ((negation lit).0 ≡ lit.0 - 1))
    ⊎ ((lit.0 % 2 ≢ 1) × ((negation lit).0 ≡ lit.0 + 1))
negation_code lit =
    elim (cases_Bool (eqb (lit.0 % 2) 1)) [
      | inl odd ↦ inl (eqb-true (lit.0 % 2) 1 odd, ap (λ b. cond b (lit.0 - 1) (lit.0 + 1)) odd)
      | inr even ↦ inr (eqb-false (lit.0 % 2) 1 even, ap (λ b. cond b (lit.0 - 1) (lit.0 + 1)) even)
    ]

-- a code that is neither a literal's nor its negation's belongs to another variable
pub other_variable : (lit : Lit) (code : ℕ) → code ≢ lit.0 → code ≢ (negation lit).0
    → variable lit ≢ code / 2
other_variable lit code one two same =
    elim (negation_code lit) [
      | inl odd ↦ omega (arith, odd.0, odd.1, one, two)
      | inr even ↦ omega
          (arith, even.0, even.1, one, two)
    ]

pub negation_differs : (lit : Lit) → lit.0 ≢ (negation lit).0
negation_differs lit same =
    elim (negation_code lit)
    [ inl odd ↦ omega (arith, odd.0, odd.1) | inr even ↦ omega (arith, even.0, even.1) ]

pub code_within : (vars : ℕ) (lit : Lit) → IsOver vars lit → lit.0 < 2 * vars + 2
code_within vars lit over = omega (arith, over.last)

pub negation_within : (vars : ℕ) (lit : Lit) → IsOver vars lit → (negation lit).0 < 2 * vars + 2
negation_within vars lit over =
    let e : variable (negation lit) ≡ variable lit = variable-negation lit in
    omega (arith, over.last, e)

pub answers_push : (vars : ℕ) (steps : List Step) (step : Step) (variables : List (Option ℕ))
    (literals : List Value) → AreAnswers vars steps variables literals
    → IsOver vars step.lit → step_of steps (variable step.lit) ≡ None
    → AreAnswers vars (steps ++ step ∷ []) (set variables (variable step.lit) (Some (length steps)))
    (set (set literals step.lit.0 Yes) (negation step.lit).0 No)
answers_push vars steps step variables literals are over none =
    record {
      places =
          table_set (place_of steps) (place_of (steps ++ step ∷ [])) (vars + 1) variables
          (variable step.lit) (Some (length steps)) are.places (omega (arith, over.last))
          (place_of_new steps step none)
          (λ k within other. place_of_other steps step k (λ e. other (sym e)));
      values =
          table_set_two (λ code. value_of steps (coded code))
          (λ code. value_of (steps ++ step ∷ []) (coded code)) (2 * vars + 2) literals
          step.lit.0 Yes (negation step.lit).0 No are.values
          (code_within vars step.lit over) (negation_within vars step.lit over)
          (negation_differs step.lit)
          (value_of_new steps step step.lit none refl
          ∙ ap (λ b. cond b Yes No) (eq-eqb step.lit.0 step.lit.0 refl))
          (value_of_new steps step (negation step.lit) none (sym (variable-negation step.lit))
          ∙ ap (λ b. cond b Yes No)
          (ne_eqb step.lit.0 (negation step.lit).0 (negation_differs step.lit)))
          (λ code within one two. value_of_other steps step (coded code)
          (other_variable step.lit code one two));
    }

pub answers_front : (vars : ℕ) (steps : List Step) (step : Step) (variables : List (Option ℕ))
    (literals : List Value) → AreAnswers vars (steps ++ step ∷ []) variables literals
    → IsOver vars step.lit → step_of steps (variable step.lit) ≡ None
    → AreAnswers vars steps (set variables (variable step.lit) None)
    (set (set literals step.lit.0 Unset) (negation step.lit).0 Unset)
answers_front vars steps step variables literals are over none =
    record {
      places =
          table_set (place_of (steps ++ step ∷ [])) (place_of steps) (vars + 1) variables
          (variable step.lit) None are.places (omega (arith, over.last))
          (place_of_none steps (variable step.lit) none)
          (λ k within other. sym (place_of_other steps step k (λ e. other (sym e))));
      values =
          table_set_two (λ code. value_of (steps ++ step ∷ []) (coded code))
          (λ code. value_of steps (coded code)) (2 * vars + 2) literals step.lit.0 Unset
          (negation step.lit).0 Unset are.values
          (code_within vars step.lit over) (negation_within vars step.lit over)
          (negation_differs step.lit)
          (ap (λ o. value_by o step.lit) none)
          (ap (λ o. value_by o (negation step.lit))
          (ap (step_of steps) (variable-negation step.lit) ∙ none))
          (λ code within one two. sym
          (value_of_other steps step (coded code) (other_variable step.lit code one two)));
    }

-- there is room for an assignment of an unset variable
pub room_left : (vars : ℕ) (steps : List Step) (count room : ℕ) (variables : List (Option ℕ))
    (literals : List Value) (step : Step) → IsKept vars steps count room variables literals
    → IsOver vars step.lit → value_of steps step.lit ≡ Unset
    → step.level ≡ next_level (present_level steps) step.reason → count < room
room_left vars steps count room variables literals step kept over unset level =
    let fits : length (steps ++ step ∷ []) ≤ vars =
    trail_fits (record { vars = vars; steps = steps ++ step ∷ [] })
    (trail_push vars steps step kept.trail over (step_of_unset steps step.lit unset) level) in
    omega (arith, fits, length-append steps (step ∷ []), kept.reserved, kept.counted)

pub kept_push : (vars : ℕ) (steps new : List Step) (count new_count room new_room : ℕ)
    (variables : List (Option ℕ)) (literals : List Value) (step : Step)
    → IsKept vars steps count room variables literals
    → IsOver vars step.lit → value_of steps step.lit ≡ Unset
    → step.level ≡ next_level (present_level steps) step.reason → new ≡ steps ++ step ∷ []
    → new_count ≡ count + 1 → new_room ≡ room
    → IsKept vars new new_count new_room (set variables (variable step.lit) (Some (length steps)))
    (set (set literals step.lit.0 Yes) (negation step.lit).0 No)
kept_push vars steps new count new_count room new_room variables literals step kept over unset level
    is more same =
    subst
    (λ n. IsKept vars n new_count new_room
    (set variables (variable step.lit) (Some (length steps)))
    (set (set literals step.lit.0 Yes) (negation step.lit).0 No)) (sym is) (record {
      few = kept.few;
      trail = trail_push vars steps step kept.trail over (step_of_unset steps step.lit unset) level;
      counted = omega (arith, kept.counted, more, length-append steps (step ∷ []));
      reserved = omega (arith, kept.reserved, same);
      answers =
          answers_push vars steps step variables literals kept.answers over
          (step_of_unset steps step.lit unset);
    })

-- the variable of the last assignment is one of the trail
pub last_over : (vars : ℕ) (steps : List Step) (step : Step)
    → IsTrail (record { vars = vars; steps = steps ++ step ∷ [] }) → IsOver vars step.lit
last_over vars steps step trail =
    subst (λ s. IsOver vars s.lit) (get_or-append_seam steps step [] step)
    (trail.over (length steps) step (omega (arith, length-append steps (step ∷ []))))

pub kept_front : (vars : ℕ) (steps new : List Step) (count new_count room new_room : ℕ)
    (variables : List (Option ℕ)) (literals : List Value) (step : Step)
    → IsKept vars steps count room variables literals → steps ≡ new ++ step ∷ []
    → new_count + 1 ≡ count → new_room ≡ room
    → IsKept vars new new_count new_room (set variables (variable step.lit) None)
    (set (set literals step.lit.0 Unset) (negation step.lit).0 Unset)
kept_front vars steps new count new_count room new_room variables literals step kept is less same =
    let before : IsKept vars (new ++ step ∷ []) count room variables literals =
    subst (λ s. IsKept vars s count room variables literals) is kept in
    record {
      few = kept.few;
      trail = trail_front vars new step before.trail;
      counted = omega (arith, before.counted, less, length-append new (step ∷ []));
      reserved = omega (arith, kept.reserved, same);
      answers =
          answers_front vars new step variables literals before.answers
          (last_over vars new step before.trail) (last_unset vars new step before.trail);
    }

pub without_last : (vars : ℕ) (steps new : List Step) (step : Step)
    → IsTrail (record { vars = vars; steps = steps }) → steps ≡ new ++ step ∷ []
    → IsWithoutLast steps new
without_last vars steps new step trail is =
    let before : IsTrail (record { vars = vars; steps = new ++ step ∷ [] }) =
    subst (λ s. IsTrail (record { vars = vars; steps = s })) is trail in
    record {
      last = step;
      steps = is;
      present = ap present_level is ∙ present_level-push new step before.levels;
      before = level_before new step before.levels;
    }
