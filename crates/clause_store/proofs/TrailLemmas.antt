-- The answers of a trail when assignments come and go.
use Rattle.std.proofs.Common.{◌≡◌, ◌≢◌, ℕ, zero, suc, ◌+◌, ◌*◌, ◌/◌, ◌%◌, Bool, true, false, not}
use Rattle.std.proofs.Common.{cond, eqb, List, [], ◌∷◌, ◌++◌, Option, Some, None, refl, sym, ap}
use Rattle.std.proofs.Common.{◌∙◌, subst, inl, inr, arith}
use Rattle.std.specs.Prelude.{find, slice_get, IsSome, Result, Ok, Err, OnOk, OnErr}
use Rattle.std.proofs.lemmas.Bool.{cases_Bool, eqb-true, eqb-false, eq-eqb, ne_eqb, cases_eq}
use Rattle.std.proofs.lemmas.Bool.{false≢true}
use Rattle.std.proofs.lemmas.Option.{same_Some}
use Rattle.std.proofs.lemmas.List.FromFn.{get_or-map-range_with_len}
use Rattle.clause_store.proofs.LiteralLemmas.{coded}
use Rattle.clause_store.specs.declared.literal.Value.{Value}
use Rattle.clause_store.specs.declared.literal.Value.TheVariants.{Yes, No, Unset}
use Rattle.clause_store.specs.declared.step.Step.{Step}
use Rattle.clause_store.specs.Clause.{variable, is_negated, truth, makes_true}
use Rattle.clause_store.specs.declared.literal.Lit.{Lit}
use Rattle.clause_store.specs.Trail.{step_of, value_by, value_of, is_yes, values_of}
use Rattle.clause_store.specs.Trail.{IsTrailOf, KeepsTrails}
use Rattle.clause_store.specs.Laws.{TrailStays, TotalMeans}

pub slice_get-append : {X : Type 0} (xs ys : List X) (k : ℕ) (x : X) → slice_get xs k ≡ Some x
    → slice_get (xs ++ ys) k ≡ Some x
slice_get-append [] ys k x is = absurd (cc)
slice_get-append (y ∷ xs) ys zero x is = is
slice_get-append (y ∷ xs) ys (suc k) x is = slice_get-append xs ys k x is

pub trail_stays : TrailStays
trail_stays clauses clause steps of at step why here forced =
    let is = of at step why here forced in
    record {
      clause = is.clause;
      named =
          slice_get-append clauses (clause ∷ []) why.0 is.clause is.named;
      here = is.here;
      others =
          is.others;
    }

pub find_passes : {X : Type 0} (p : X → Bool) (xs : List X) (x : X) → find p xs ≡ Some x
    → p x ≡ true
find_passes p [] x is = absurd (cc)
find_passes p (y ∷ xs) x is = go (p y) refl is (find_passes p xs x)
  where
    go : (b : Bool) → p y ≡ b → cond b (Some y) (find p xs) ≡ Some x
        → (find p xs ≡ Some x → p x ≡ true) → p x ≡ true
    go true passes same rest = subst (λ z. p z ≡ true) (same_Some y x same) passes
    go false fails later rest = rest later

-- whether the clause was added or not, a trail of the old clauses is one of the new ones
pub trails_after : {X E : Type 0} (result : Result X E) (old new : List (List Lit))
    (clause : List Lit) → OnOk result (new ≡ old ++ clause ∷ []) → OnErr result (new ≡ old)
    → KeepsTrails old new
trails_after (Ok x) old new clause ok err steps is =
    subst (IsTrailOf steps) (sym ok) (trail_stays old clause steps is)
trails_after (Err e) old new clause ok err steps is = subst (IsTrailOf steps) (sym err) is

-- ---- the assignment of a total trail

pub yes_iff : (value : Value) → ((is_yes value ≡ true) → (value ≡ Yes))
    × ((value ≡ Yes) → (is_yes value ≡ true))
yes_iff Yes = (λ h. refl, λ h. refl)
yes_iff No = (λ h. absurd (false≢true h), λ h. absurd (cc))
yes_iff Unset = (λ h. absurd (false≢true h), λ h. absurd (cc))

is_yes_cond : (b : Bool) → is_yes (cond b Yes No) ≡ b
is_yes_cond true = refl
is_yes_cond false = refl

-- two codes of one variable are told apart by the even one of them
same_code : (one two : ℕ) → one / 2 ≡ two / 2
    → cond (eqb (two % 2) 1) (not (eqb one (2 * (two / 2)))) (eqb one (2 * (two / 2))) ≡ eqb one two
same_code one two same =
    elim (cases_Bool (eqb (two % 2) 1)) [
      | inl odd ↦ rw odd (let two_odd : two % 2 ≡ 1 = eqb-true (two % 2) 1 odd in
          elim (cases_eq one (2 * (two / 2))) [
            | inl even ↦ rw (eq-eqb one (2 * (two / 2)) even, ne_eqb one two (λ e. omega arith))
                refl
            | inr other ↦ rw (ne_eqb one (2 * (two / 2)) other, eq-eqb one two (omega arith)) refl
          ])
      | inr even ↦ rw even (let two_even : two % 2 ≢ 1 = eqb-false (two % 2) 1 even in
          let same_two : 2 * (two / 2) ≡ two = omega arith in ap (eqb one) same_two)
    ]

pub total_means : TotalMeans
total_means trail lit total over =
    go (step_of trail.steps (variable lit)) refl (total (variable lit) over.first over.last)
  where
    means : (step : Step) → step_of trail.steps (variable lit) ≡ Some step
        → makes_true (values_of trail) lit ≡ is_yes (value_of trail.steps lit)
    means step is =
        let half : (2 * variable lit) / 2 ≡ variable lit = omega arith in
        let read : truth (values_of trail) (variable lit) ≡ eqb step.lit.0 (2 * variable lit) =
        get_or-map-range_with_len (λ var. is_yes (value_of trail.steps (coded (2 * var)))) 0
        (trail.vars + 1) (variable lit) (variable lit) false (omega (arith, over.last))
        (omega arith)
        ∙ ap (λ v. is_yes (value_by (step_of trail.steps v) (coded (2 * variable lit)))) half
        ∙ ap (λ o. is_yes (value_by o (coded (2 * variable lit)))) is
        ∙ is_yes_cond (eqb step.lit.0 (2 * variable lit)) in
        ap (λ t. cond (is_negated lit) (not t) t) read
        ∙ same_code step.lit.0 lit.0
        (eqb-true (variable step.lit) (variable lit)
        (find_passes (λ s. eqb (variable s.lit) (variable lit)) trail.steps step is))
        ∙ sym (ap (λ o. is_yes (value_by o lit)) is ∙ is_yes_cond (eqb step.lit.0 lit.0))

    go : (o : Option Step) → step_of trail.steps (variable lit) ≡ o → IsSome o
        → (makes_true (values_of trail) lit ≡ true → value_of trail.steps lit ≡ Yes)
        × (value_of trail.steps lit ≡ Yes → makes_true (values_of trail) lit ≡ true)
    go None is some = absurd (false≢true some)
    go (Some step) is some = (
      λ t. (yes_iff (value_of trail.steps lit)).0 (sym (means step is) ∙ t),
      λ t. means step is
          ∙ (yes_iff (value_of trail.steps lit)).1 t,
    )
