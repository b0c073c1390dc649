-- Reasons stay what they were when later assignments come.
use Rattle.std.proofs.Common.{◌≡◌, ◌≢◌, ℕ, zero, suc, ◌<◌, Bool, true, false, cond, eqb, List, []}
use Rattle.std.proofs.Common.{◌∷◌, length, take, get_or, Option, None, Some, refl, ap, ◌∙◌, arith}
use Rattle.std.specs.Prelude.{find}
use Rattle.std.proofs.lemmas.Bool.{eq-eqb, ne_eqb}
use Rattle.std.proofs.lemmas.List.Elements.{All-weaker}
use Rattle.std.proofs.lemmas.Option.{slice_get-get_or}
use Rattle.clause_store.specs.declared.literal.Lit.{Lit}
use Rattle.clause_store.specs.declared.literal.Value.TheVariants.{Yes, No}
use Rattle.clause_store.specs.declared.step.Step.{Step}
use Rattle.clause_store.specs.Clause.{variable}
use Rattle.clause_store.specs.Trail.{Assigned, IsReasonFor, IsTrail, step_of, value_by, value_of}
use Rattle.propagator.specs.Laws.{ReasonsHold}

-- the first element that passes is found
find_at : {X : Type 0} (p : X → Bool) (xs : List X) (k : ℕ) (d : X) → k < length xs
    → ((i : ℕ) → i < k → p (get_or xs i d) ≡ false) → p (get_or xs k d) ≡ true
    → find p xs ≡ Some (get_or xs k d)
find_at p [] k d within before here = absurd (omega (arith, within))
find_at p (x ∷ xs) zero d within before here = rw here refl
find_at p (x ∷ xs) (suc k) d within before here =
    rw (before 0 (omega arith))
    (find_at p xs k d (omega (arith, within)) (λ i lt. before (suc i) (omega (arith, lt))) here)

-- what is found among the first is found among all
find_more : {X : Type 0} (p : X → Bool) (xs : List X) (k : ℕ) (x : X) → find p (take k xs) ≡ Some x
    → find p xs ≡ Some x
find_more p xs zero x is = absurd (cc)
find_more p [] (suc k) x is = is
find_more p (y ∷ xs) (suc k) x is = go (p y) is (find_more p xs k x)
  where
    go : (b : Bool) → cond b (Some y) (find p (take k xs)) ≡ Some x
        → (find p (take k xs) ≡ Some x → find p xs ≡ Some x) → cond b (Some y) (find p xs) ≡ Some x
    go true is rest = is
    go false is rest = rest is

-- a literal that was false stays so
no_more : (steps : List Step) (k : ℕ) (lit : Lit) → value_of (take k steps) lit ≡ No
    → value_of steps lit ≡ No
no_more steps k lit is_no = go (step_of (take k steps) (variable lit)) refl is_no
  where
    go : (o : Option Step) → step_of (take k steps) (variable lit) ≡ o → value_by o lit ≡ No
        → value_of steps lit ≡ No
    go None is is_no = absurd (cc)
    go (Some step) is is_no =
        ap (λ o. value_by o lit)
        (find_more (λ s. eqb (variable s.lit) (variable lit)) steps k step is) ∙ is_no

-- the assignment of a literal's variable is found
step_found : (trail : Assigned) (k : ℕ) (d : Step) → IsTrail trail → k < length trail.steps
    → step_of trail.steps (variable (get_or trail.steps k d).lit) ≡ Some (get_or trail.steps k d)
step_found trail k d is within =
    find_at (λ s. eqb (variable s.lit) (variable (get_or trail.steps k d).lit)) trail.steps k d
    within
    (λ i before. ne_eqb (variable (get_or trail.steps i d).lit)
    (variable (get_or trail.steps k d).lit) (is.once i k d before within))
    (eq-eqb (variable (get_or trail.steps k d).lit) (variable (get_or trail.steps k d).lit) refl)

-- the literal of an assignment is true
pub assigned_yes : (trail : Assigned) (k : ℕ) (d : Step) → IsTrail trail → k < length trail.steps
    → value_of trail.steps (get_or trail.steps k d).lit ≡ Yes
assigned_yes trail k d is within =
    ap (λ o. value_by o (get_or trail.steps k d).lit) (step_found trail k d is within)
    ∙ ap (λ b. cond b Yes No)
    (eq-eqb (get_or trail.steps k d).lit.0 (get_or trail.steps k d).lit.0 refl)

pub reasons_hold : ReasonsHold
reasons_hold trail clauses is of k d within why reason =
    record {
      clause = forced.clause;
      named = forced.named;
      yes = assigned_yes trail k d is within;
      others =
          All-weaker (λ other. other ≢ step.lit → value_of (take k trail.steps) other ≡ No)
          (λ other. other ≢ step.lit → value_of trail.steps other ≡ No)
          (λ other is_no differ. no_more trail.steps k other (is_no differ)) forced.clause
          forced.others;
    }
  where
    step : Step
    step = get_or trail.steps k d

    forced : IsReasonFor clauses (take k trail.steps) step.lit why
    forced = of k step why (slice_get-get_or trail.steps k d within) reason
