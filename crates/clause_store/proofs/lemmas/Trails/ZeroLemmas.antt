-- The assignments of level 0 are true in every assignment that meets the clauses of the trail.
use Rattle.std.proofs.Common.{◌≡◌, ◌≢◌, ℕ, zero, suc, ◌+◌, ◌-◌, ◌/◌, ◌%◌, ◌<◌, ◌≤◌, Bool, true}
use Rattle.std.proofs.Common.{false, cond, eqb, List, [], ◌∷◌, ◌++◌, length, take, get_or}
use Rattle.std.proofs.Common.{Option, Some, None, refl, sym, ap, ◌∙◌, subst, inl, inr, arith}
use Rattle.std.specs.Prelude.{All, Contains, find, nat_le, slice_get}
use Rattle.std.proofs.lemmas.Bool.{cases_Bool, eqb-true, eqb-false, leb-true}
use Rattle.std.proofs.lemmas.List.{take-append-le}
use Rattle.std.proofs.Math.Seq.{take-length, take-suc}
use Rattle.std.proofs.lemmas.Option.{same_Some, slice_get_within, slice_get-get_or}
use Rattle.std.proofs.lemmas.List.Elements.{All-cons, All-contains, All-head, All-nil, All-tail}
use Rattle.std.proofs.lemmas.List.Elements.{All-push, All-filter, filter_passes}
use Rattle.clause_store.specs.declared.literal.Lit.{Lit}
use Rattle.clause_store.specs.declared.literal.ClauseRef.{ClauseRef}
use Rattle.clause_store.specs.declared.literal.Value.TheVariants.{Yes, No}
use Rattle.clause_store.specs.declared.step.Step.{Step}
use Rattle.clause_store.specs.Clause.{variable, negation, IsTrueIn, HoldsIn}
use Rattle.clause_store.specs.Clause.{Meets}
use Rattle.clause_store.specs.Standing.{IsFalse, IsFalseOn}
use Rattle.clause_store.specs.Trail.{Assigned, IsReasonFor, IsTrail, IsTrailOf, RisesFrom, step_of}
use Rattle.clause_store.specs.Trail.{value_by, up_to, next_level}
use Rattle.clause_store.specs.Laws.{FalseAtZero, ConflictAtZero}
use Rattle.clause_store.proofs.BackLemmas.{front_after_back}
use Rattle.clause_store.proofs.EntailmentLemmas.{not_both}
use Rattle.clause_store.proofs.LiteralLemmas.{cases_lit, lit_of_code}
use Rattle.clause_store.proofs.ReasonLemmas.{up_to_all}
use Rattle.clause_store.proofs.StepLemmas.{blank}
use Rattle.clause_store.proofs.TrailLemmas.{find_passes, slice_get-append}

-- ---- false literals

-- two literals of one variable that differ are negations of each other
pub other_is_negation : (one two : ℕ) → one / 2 ≡ two / 2 → one ≢ two
    → one ≡ cond (eqb (two % 2) 1) (two - 1) (two + 1)
other_is_negation one two same differ =
    elim (cases_Bool (eqb (two % 2) 1)) [
      | inl odd ↦ rw odd (let two_odd : two % 2 ≡ 1 = eqb-true (two % 2) 1 odd in omega arith)
      | inr even ↦ rw even (let two_even : two % 2 ≢ 1 = eqb-false (two % 2) 1 even in omega arith)
    ]

-- what is found in a list where all have a property has it
found_has : {X : Type 0} (P : X → Type 0) (p : X → Bool) (xs : List X) (x : X) → All P xs
    → find p xs ≡ Some x → P x
found_has P p [] x all found = absurd (cc)
found_has P p (first ∷ xs) x all found =
    go (p first) found (found_has P p xs x (All-tail P first xs all))
  where
    go : (b : Bool) → cond b (Some first) (find p xs) ≡ Some x → (find p xs ≡ Some x → P x) → P x
    go true is later = subst P (same_Some first x is) (All-head P first xs all)
    go false is later = later is

differ_of_no : (one two : ℕ) → cond (eqb one two) Yes No ≡ No → one ≢ two
differ_of_no one two is_no = eqb-false one two (go (eqb one two) is_no)
  where
    go : (b : Bool) → cond b Yes No ≡ No → b ≡ false
    go true is = absurd (cc)
    go false is = refl

-- where all assigned literals are true in an assignment, the false ones are false in it
false_there : (values : List Bool) (steps : List Step) (lit : Lit)
    → All (λ step. IsTrueIn values step.lit) steps → IsFalse steps lit → ¬ IsTrueIn values lit
false_there values steps lit all is_false is_true =
    go (step_of steps (variable lit)) refl is_false
  where
    go : (o : Option Step) → step_of steps (variable lit) ≡ o → value_by o lit ≡ No → ⊥
    go None found is_no = absurd (cc)
    go (Some step) found is_no =
        not_both values lit is_true
        (subst (IsTrueIn values)
        (lit_of_code step.lit (negation lit)
        (other_is_negation step.lit.0 lit.0
        (eqb-true (variable step.lit) (variable lit)
        (find_passes (λ s. eqb (variable s.lit) (variable lit)) steps step found))
        (differ_of_no step.lit.0 lit.0 is_no)))
        (found_has (λ s. IsTrueIn values s.lit) (λ s. eqb (variable s.lit) (variable lit)) steps
        step all found))

-- ---- level 0

-- a decision is above the level before
rises_decided : (level : ℕ) (steps : List Step) → RisesFrom level steps
    → All (λ step. step.reason ≡ None → 1 ≤ step.level) steps
rises_decided level [] rises = All-nil (λ step. step.reason ≡ None → 1 ≤ step.level)
rises_decided level (step ∷ rest) rises =
    All-cons (λ s. s.reason ≡ None → 1 ≤ s.level) step rest
    (λ none. let e : step.level ≡ level + 1 = rises.0 ∙ ap (next_level level) none in
    omega (arith, e))
    (rises_decided step.level rest rises.1)

-- a trail's front is one of the clauses too
of_front : (clauses : List (List Lit)) (front rest : List Step)
    → IsTrailOf (front ++ rest) clauses → IsTrailOf front clauses
of_front clauses front rest of at step why here forced =
    let within : at < length front = slice_get_within front at step here in
    let low : at ≤ length front = omega arith in
    subst (λ earlier. IsReasonFor clauses earlier step.lit why) (take-append-le at front rest low)
    (of at step why (slice_get-append front rest at step here) forced)

named_there : (clauses : List (List Lit)) (at : ℕ) (clause : List Lit)
    → slice_get clauses at ≡ Some clause → Contains clauses clause
named_there clauses at clause named = (
  at,
  slice_get_within clauses at clause named,
  same_Some (get_or clauses at clause) clause
      (sym (slice_get-get_or clauses at clause (slice_get_within clauses at clause named))
      ∙ named),
)

-- a reason's literal is true where the others are false
reason_true : (values : List Bool) (clauses : List (List Lit)) (before : List Step) (lit : Lit)
    (why : ClauseRef) → Meets values clauses → All (λ step. IsTrueIn values step.lit) before
    → IsReasonFor clauses before lit why → IsTrueIn values lit
reason_true values clauses before lit why meets all is =
    elim (cases_lit holds.1 lit) [
      | inl same ↦ subst (IsTrueIn values) same holds.4
      | inr differs ↦ absurd
          (false_there values before holds.1 all
          (All-contains (λ other. other ≢ lit → IsFalse before other) is.clause holds.1 is.others
          (holds.0, holds.2, holds.3) differs) holds.4)
    ]
  where
    holds : HoldsIn values is.clause
    holds =
        All-contains (HoldsIn values) clauses is.clause meets
        (named_there clauses why.0 is.clause is.named)

-- assignments that all have a reason are true, from the first on
record AreForced (clauses : List (List Lit)) (steps : List Step) : Type 0 where
  of : IsTrailOf steps clauses
  forced : All (λ step. step.reason ≢ None) steps

forced_next : (values : List Bool) (clauses : List (List Lit)) (before : List Step) (step : Step)
    (o : Option ClauseRef) → step.reason ≡ o → step.reason ≢ None → Meets values clauses
    → All (λ s. IsTrueIn values s.lit) before
    → ((why : ClauseRef) → step.reason ≡ Some why → IsReasonFor clauses before step.lit why)
    → IsTrueIn values step.lit
forced_next values clauses before step None is some meets all of = absurd (some is)
forced_next values clauses before step (Some why) is some meets all of =
    reason_true values clauses before step.lit why meets all (of why is)

forced_true : (values : List Bool) (clauses : List (List Lit)) (steps : List Step)
    → AreForced clauses steps → Meets values clauses → (n : ℕ) → n ≤ length steps
    → All (λ step. IsTrueIn values step.lit) (take n steps)
forced_true values clauses steps are meets zero low = All-nil (λ step. IsTrueIn values step.lit)
forced_true values clauses steps are meets (suc n) low =
    let within : n < length steps = omega (arith, low) in
    let before : All (λ step. IsTrueIn values step.lit) (take n steps) =
    forced_true values clauses steps are meets n (omega (arith, low)) in
    subst (All (λ step. IsTrueIn values step.lit)) (sym (take-suc steps n blank within))
    (All-push (λ step. IsTrueIn values step.lit) (take n steps) (get_or steps n blank) before
    (forced_next values clauses (take n steps) (get_or steps n blank)
    (get_or steps n blank).reason refl (are.forced n blank within) meets before
    (λ why reason. are.of n (get_or steps n blank) why (slice_get-get_or steps n blank within)
    reason)))

zero_forced : (trail : Assigned) (clauses : List (List Lit)) → IsTrail trail
    → IsTrailOf trail.steps clauses → AreForced clauses (up_to 0 trail.steps)
zero_forced trail clauses is of =
    let front = front_after_back trail 0 is in
    record {
      of = of_front clauses (up_to 0 trail.steps) front.0
          (subst (λ steps. IsTrailOf steps clauses) front.1 of);
      forced =
          λ k d within none.
          let low : (get_or (up_to 0 trail.steps) k d).level ≤ 0 =
          leb-true (get_or (up_to 0 trail.steps) k d).level 0
          (filter_passes (λ step. nat_le step.level 0) trail.steps k d within) in
          let high : 1 ≤ (get_or (up_to 0 trail.steps) k d).level =
          All-filter (λ step. nat_le step.level 0) (λ step. step.reason ≡ None → 1 ≤ step.level)
          trail.steps (rises_decided 0 trail.steps is.levels) k d within none in
          omega (arith, low, high);
    }

-- what is assigned at level 0 is true wherever the clauses hold
pub zero_true : (values : List Bool) (trail : Assigned) (clauses : List (List Lit))
    → IsTrail trail → IsTrailOf trail.steps clauses → Meets values clauses
    → All (λ step. IsTrueIn values step.lit) (up_to 0 trail.steps)
zero_true values trail clauses is of meets =
    subst (All (λ step. IsTrueIn values step.lit)) (take-length (up_to 0 trail.steps))
    (forced_true values clauses (up_to 0 trail.steps) (zero_forced trail clauses is of) meets
    (length (up_to 0 trail.steps)) (omega arith))

pub false_at_zero : FalseAtZero
false_at_zero trail clauses clause values is of wrong holds meets =
    false_there values (up_to 0 trail.steps) holds.1 (zero_true values trail clauses is of meets)
    (All-contains (IsFalse (up_to 0 trail.steps)) clause holds.1 wrong
    (holds.0, holds.2, holds.3)) holds.4

pub conflict_at_zero : ConflictAtZero
conflict_at_zero trail clauses at values is of level conflict meets =
    false_at_zero trail clauses conflict.clause values is of
    (subst (λ steps. IsFalseOn steps conflict.clause)
    (sym (up_to_all 0 trail.steps (omega (arith, level)))) conflict.is_false)
    (All-contains (HoldsIn values) clauses conflict.clause meets
    (named_there clauses at.0 conflict.clause conflict.named)) meets
