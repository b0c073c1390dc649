-- What is true by assumptions alone: how the order of what was made true is kept, and what it says
-- of one-sided variables.
use Rattle.std.proofs.Common.{◌≡◌, ℕ, ◌+◌, ◌*◌, ◌%◌, ◌/◌, Bool, true, false, cond, eqb, List, []}
use Rattle.std.proofs.Common.{◌∷◌}
use Rattle.std.proofs.Common.{◌++◌, ◌⊎◌, get_or, Option, Some, None, refl, sym, ap, ◌∙◌, subst}
use Rattle.std.proofs.Common.{inl, inr, arith}
use Rattle.std.specs.Prelude.{All, Contains, IsSome}
use Rattle.std.proofs.lemmas.Bool.{eqb-true, eq-eqb, false≢true, ne_eqb}
use Rattle.std.proofs.lemmas.List.Elements.{All-append, All-cons, All-contains, All-contains_itself}
use Rattle.std.proofs.lemmas.List.Elements.{All-nil, All-push, All-weaker}
use Rattle.std.proofs.lemmas.List.Elements.{Contains-append_left}
use Rattle.std.proofs.lemmas.List.Elements.{Contains-push_cases}
use Rattle.std.proofs.lemmas.Option.{slice_get-get_or}
use Rattle.clause_store.specs.declared.literal.Lit.{Lit}
use Rattle.clause_store.specs.declared.literal.ClauseRef.{ClauseRef}
use Rattle.clause_store.specs.declared.literal.Value.TheVariants.{Yes, No}
use Rattle.clause_store.specs.declared.step.Step.{Step}
use Rattle.clause_store.specs.Clause.{is_negated, negation}
use Rattle.clause_store.specs.Standing.{IsFalse}
use Rattle.clause_store.specs.Trail.{Assigned, IsTrail, IsTrailOf, RisesFrom, next_level}
use Rattle.clause_store.specs.Trail.{present_level, step_of, up_to, value_by, value_of}
use Rattle.clause_store.proofs.BackLemmas.{front_after_back}
use Rattle.clause_store.proofs.LiteralLemmas.{any_from, any_through}
use Rattle.clause_store.proofs.LiteralLemmas.{lit_of_code}
use Rattle.propagator.specs.Fixpoint.{Extends}
use Rattle.conflict_learning.specs.Analysis.{StandsIn}
use Rattle.conflict_learning.proofs.AssignedLemmas.{here_at, refuter}
use Rattle.search_state.proofs.AssumedLemmas.{first_after_back, first_at_start, first_extended}
use Rattle.search_state.proofs.AssumedLemmas.{first_push}
use Rattle.assumption_engine.specs.Theory.{MeansTheSame, Meaning}
use Rattle.assumption_engine.specs.Task.{IsNext}
use Rattle.assumption_engine.specs.Sided.{AreAsAssumed, AreInOrder, AreOpposed, AreTrueAsAssumed}
use Rattle.assumption_engine.specs.Sided.{IsAssumedOrFree, IsOneSided, negative, positive}

-- ---- literals that stand in clauses

-- a literal stands in more clauses
pub stands_later : (clauses : List (List Lit)) (clause : List Lit) (lit : Lit)
    → StandsIn clauses lit → StandsIn (clauses ++ clause ∷ []) lit
stands_later clauses clause lit stands =
    any_through (λ c. Contains c lit) (λ c. Contains c lit) clauses (clauses ++ clause ∷ [])
    (All-weaker (Contains clauses) (Contains (clauses ++ clause ∷ []))
    (λ one here. Contains-append_left clauses (clause ∷ []) one here) clauses
    (All-contains_itself clauses)) (λ c here. here) stands

-- in the clauses that were there or in the last one
stands_cases : (clauses : List (List Lit)) (clause : List Lit) (lit : Lit)
    → StandsIn (clauses ++ clause ∷ []) lit → StandsIn clauses lit ⊎ Contains clause lit
stands_cases clauses clause lit (k, one, within, is, here) =
    elim (Contains-push_cases clauses clause one (k, within, is)) [
      | inl before ↦ inl (any_from (λ c. Contains c lit) clauses one before here)
      | inr last ↦ inr (subst (λ c. Contains c lit) (sym last) here)
    ]

-- ---- one-sided variables

-- a clause that hasn't a variable unnegated leaves it one-sided
pub sided_with : (IsKind : List Lit → Type 0) (clauses : List (List Lit)) (clause : List Lit)
    (var : ℕ) → (Contains clause (positive var) → ⊥) → IsOneSided IsKind clauses var
    → IsOneSided IsKind (clauses ++ clause ∷ []) var
sided_with IsKind clauses clause var lacks is =
    record {
      not_stored =
          λ stands. elim (stands_cases clauses clause (positive var) stands) [
            | inl before ↦ is.not_stored before
            | inr here ↦ lacks here
          ];
      not_given = is.not_given;
    }

-- where fewer clauses may be given
sided_for : (IsKind IsOther : List Lit → Type 0) (clauses : List (List Lit)) (var : ℕ)
    → ((clause : List Lit) → IsOther clause → IsKind clause) → IsOneSided IsKind clauses var
    → IsOneSided IsOther clauses var
sided_for IsKind IsOther clauses var fewer is =
    record {
      not_stored = is.not_stored;
      not_given = λ clause may here. is.not_given clause (fewer clause may) here;
    }

-- so where a theory means the same, there and back
pub sided_same : (one two : Meaning) (clauses : List (List Lit)) (var : ℕ) → MeansTheSame one two
    → IsOneSided one.may_give clauses var → IsOneSided two.may_give clauses var
sided_same one two clauses var same is =
    sided_for one.may_give two.may_give clauses var (λ clause. (same.may_give clause).1) is

pub sided_back : (one two : Meaning) (clauses : List (List Lit)) (var : ℕ) → MeansTheSame one two
    → IsOneSided two.may_give clauses var → IsOneSided one.may_give clauses var
sided_back one two clauses var same is =
    sided_for two.may_give one.may_give clauses var (λ clause. (same.may_give clause).0) is

-- what is as assumed beside the later clauses is so beside the earlier ones
pub as_assumed_before : (one two : Meaning) (early late : List (List Lit)) (assumed : List Lit)
    (units : List (List Lit)) → MeansTheSame one two
    → ((var : ℕ) → IsOneSided one.may_give early var → IsOneSided one.may_give late var)
    → All (AreAsAssumed two.may_give late assumed) units
    → All (AreAsAssumed one.may_give early assumed) units
as_assumed_before one two early late assumed units same stay all =
    All-weaker (AreAsAssumed two.may_give late assumed) (AreAsAssumed one.may_give early assumed)
    (λ unit is var sided. is var (sided_same one two late var same (stay var sided))) units all

-- a clause whose literals stand in clauses has no one-sided variable unnegated
pub lacks_unnegated : (IsKind : List Lit → Type 0) (clauses : List (List Lit)) (clause : List Lit)
    (var : ℕ) → All (StandsIn clauses) clause → IsOneSided IsKind clauses var
    → Contains clause (positive var) → ⊥
lacks_unnegated IsKind clauses clause var stand is here =
    is.not_stored (All-contains (StandsIn clauses) clause (positive var) stand here)

-- ---- the order of what was made true

-- at level 0 each assignment was forced
all_forced : (start : ℕ) (steps : List Step) → RisesFrom start steps → present_level steps ≡ 0
    → All (λ step. IsSome step.reason) steps
all_forced start [] rises level = All-nil (λ step. IsSome step.reason)
all_forced start (step ∷ rest) rises level =
    All-cons (λ s. IsSome s.reason) step rest (go step.reason refl)
    (all_forced step.level rest rises.1 (omega arith))
  where
    go : (reason : Option ClauseRef) → step.reason ≡ reason → IsSome reason
    go None none =
        let high : step.level ≡ start + 1 = rises.0 ∙ ap (next_level start) none in
        absurd (omega (arith, level, high))
    go (Some why) some = refl

-- a literal that was forced stands in a clause
all_free : (clauses : List (List Lit)) (assumed : List Lit) (steps : List Step)
    → IsTrailOf steps clauses
    → All (λ step. IsAssumedOrFree clauses assumed step.lit ⊎ IsSome step.reason) steps
    → All (λ step. IsAssumedOrFree clauses assumed step.lit) steps
all_free clauses assumed steps of all k d within =
    elim (all k d within) [
      | inl free ↦ free
      | inr forced ↦ inr (inr (by_reason (get_or steps k d).reason refl forced))
    ]
  where
    by_reason : (reason : Option ClauseRef) → (get_or steps k d).reason ≡ reason
        → IsSome (get_or steps k d).reason → StandsIn clauses (get_or steps k d).lit
    by_reason None none forced = absurd (false≢true (subst IsSome none forced))
    by_reason (Some why) some forced =
        let is = of k (get_or steps k d) why (slice_get-get_or steps k d within) some in
        any_from (λ c. Contains c (get_or steps k d).lit) clauses is.clause
        (here_at clauses why.0 is.clause is.named) is.here

-- at level 0 all is in order
pub order_at_start : (clauses : List (List Lit)) (assumed : List Lit) (trail : Assigned)
    → IsTrail trail → IsTrailOf trail.steps clauses → present_level trail.steps ≡ 0
    → AreInOrder clauses assumed trail.steps
order_at_start clauses assumed trail is of level =
    record {
      first = first_at_start assumed trail is level;
      free =
          all_free clauses assumed trail.steps of
          (All-weaker (λ s. IsSome s.reason)
          (λ s. IsAssumedOrFree clauses assumed s.lit ⊎ IsSome s.reason) (λ s forced. inr forced)
          trail.steps (all_forced 0 trail.steps is.levels level));
    }

-- what is in order stays so when the trail goes back
pub order_after_back : (clauses : List (List Lit)) (assumed : List Lit) (trail : Assigned)
    (level : ℕ) → IsTrail trail → AreInOrder clauses assumed trail.steps
    → AreInOrder clauses assumed (up_to level trail.steps)
order_after_back clauses assumed trail level is order =
    record {
      first = first_after_back assumed trail level is order.first;
      free =
          let front = front_after_back trail level is in
          λ k d within.
          let here = Contains-append_left (up_to level trail.steps) front.0
          (get_or (up_to level trail.steps) k d)
          (All-contains_itself (up_to level trail.steps) k d within) in
          All-contains (λ s. IsAssumedOrFree clauses assumed s.lit) trail.steps
          (get_or (up_to level trail.steps) k d) order.free
          (subst (λ all. Contains all (get_or (up_to level trail.steps) k d)) (sym front.1) here);
    }

-- after propagation
pub order_extended : (clauses : List (List Lit)) (assumed : List Lit) (old new : Assigned)
    → Extends old new → IsTrailOf new.steps clauses → AreInOrder clauses assumed old.steps
    → AreInOrder clauses assumed new.steps
order_extended clauses assumed old new extends of order =
    record {
      first = first_extended assumed old new extends order.first;
      free =
          all_free clauses assumed new.steps of
          (subst (All (λ s. IsAssumedOrFree clauses assumed s.lit ⊎ IsSome s.reason))
          (sym extends.steps)
          (All-append (λ s. IsAssumedOrFree clauses assumed s.lit ⊎ IsSome s.reason) old.steps
          extends.added
          (All-weaker (λ s. IsAssumedOrFree clauses assumed s.lit)
          (λ s. IsAssumedOrFree clauses assumed s.lit ⊎ IsSome s.reason) (λ s free. inl free)
          old.steps order.free)
          (All-weaker (λ s. IsSome s.reason)
          (λ s. IsAssumedOrFree clauses assumed s.lit ⊎ IsSome s.reason) (λ s forced. inr forced)
          extends.added extends.forced)));
    }

-- after a decision
pub order_pushed : (clauses : List (List Lit)) (assumed : List Lit) (steps : List Step)
    (step : Step) → Contains assumed step.lit ⊎ IsNext clauses assumed steps step.lit
    → AreInOrder clauses assumed steps → AreInOrder clauses assumed (steps ++ step ∷ [])
order_pushed clauses assumed steps step turn order =
    record {
      first =
          first_push assumed steps step order.first
          (λ none. elim turn [ inl among ↦ inl among | inr next ↦ inr next.all_true ]);
      free =
          All-push (λ s. IsAssumedOrFree clauses assumed s.lit) steps step order.free
          (elim turn [ inl among ↦ inl among | inr next ↦ inr next.free ]);
    }

-- when a clause comes
pub order_with_clause : (clauses : List (List Lit)) (clause assumed : List Lit)
    (steps : List Step) → AreInOrder clauses assumed steps
    → AreInOrder (clauses ++ clause ∷ []) assumed steps
order_with_clause clauses clause assumed steps order =
    record {
      first = order.first;
      free =
          All-weaker (λ s. IsAssumedOrFree clauses assumed s.lit)
          (λ s. IsAssumedOrFree (clauses ++ clause ∷ []) assumed s.lit)
          (λ s free. more s.lit free) steps order.free;
    }
  where
    more : (lit : Lit) → IsAssumedOrFree clauses assumed lit
        → IsAssumedOrFree (clauses ++ clause ∷ []) assumed lit
    more lit (inl among) = inl among
    more lit (inr (inl negated)) = inr (inl negated)
    more lit (inr (inr stands)) = inr (inr (stands_later clauses clause lit stands))

-- ---- what is true and what is learned

positive_is_not_negated : (var : ℕ) → is_negated (positive var) ≡ true → ⊥
positive_is_not_negated var is =
    let odd : (2 * var) % 2 ≡ 1 = eqb-true ((2 * var) % 2) 1 is in omega (arith, odd)

negation_of_negative : (var : ℕ) → negation (negative var) ≡ positive var
negation_of_negative var =
    let odd : eqb ((2 * var + 1) % 2) 1 ≡ true = eq-eqb ((2 * var + 1) % 2) 1 (omega arith) in
    lit_of_code (negation (negative var)) (positive var) (rw odd (omega arith))

-- a one-sided variable that is assumed or free is assumed
free_is_assumed : (IsKind : List Lit → Type 0) (clauses : List (List Lit)) (assumed : List Lit)
    (var : ℕ) → IsOneSided IsKind clauses var → IsAssumedOrFree clauses assumed (positive var)
    → Contains assumed (positive var)
free_is_assumed IsKind clauses assumed var is (inl among) = among
free_is_assumed IsKind clauses assumed var is (inr (inl negated)) =
    absurd (positive_is_not_negated var negated)
free_is_assumed IsKind clauses assumed var is (inr (inr stands)) = absurd (is.not_stored stands)

-- where a variable is true, its negative literal is false
other_is_no : (var : ℕ) (o : Option Step) → value_by o (positive var) ≡ Yes
    → value_by o (negative var) ≡ No
other_is_no var None is = absurd (cc)
other_is_no var (Some step) is = go (eqb step.lit.0 (2 * var)) refl is
  where
    go : (b : Bool) → eqb step.lit.0 (2 * var) ≡ b → cond b Yes No ≡ Yes
        → value_by (Some step) (negative var) ≡ No
    go true same made =
        let even : step.lit.0 ≡ 2 * var = eqb-true step.lit.0 (2 * var) same in
        ap (λ b. cond b Yes No) (ne_eqb step.lit.0 (2 * var + 1) (λ odd. omega (arith, even, odd)))
    go false other made = absurd (cc)

-- a variable that is true was made true
true_was_made : (P : Lit → Type 0) (steps : List Step) (var : ℕ)
    → value_of steps (positive var) ≡ Yes → All (λ step. P step.lit) steps → P (positive var)
true_was_made P steps var is all =
    let half : (2 * var + 1) / 2 ≡ (2 * var) / 2 = omega arith in
    let by =
    refuter steps (negative var)
    (ap (λ v. value_by (step_of steps v) (negative var)) half
    ∙ other_is_no var (step_of steps ((2 * var) / 2)) is) in
    subst P (by.negates ∙ negation_of_negative var)
    (All-contains (λ s. P s.lit) steps by.step all by.here)

-- where all is in order, a one-sided variable is true only by assumption
pub true_as_assumed : (IsKind : List Lit → Type 0) (clauses : List (List Lit)) (assumed : List Lit)
    (steps : List Step) → AreInOrder clauses assumed steps
    → AreTrueAsAssumed IsKind clauses assumed steps
true_as_assumed IsKind clauses assumed steps order var is is_yes =
    free_is_assumed IsKind clauses assumed var is
    (true_was_made (IsAssumedOrFree clauses assumed) steps var is_yes order.free)

-- the opposites of false literals are assumed or free
pub opposed : (clauses : List (List Lit)) (assumed : List Lit) (steps : List Step)
    (clause : List Lit) → AreInOrder clauses assumed steps → All (IsFalse steps) clause
    → AreOpposed clauses assumed clause
opposed clauses assumed steps clause order all_false =
    All-weaker (IsFalse steps) (λ lit. IsAssumedOrFree clauses assumed (negation lit))
    (λ lit is_false.
    let by = refuter steps lit is_false in
    subst (IsAssumedOrFree clauses assumed) by.negates
    (All-contains (λ s. IsAssumedOrFree clauses assumed s.lit) steps by.step order.free by.here))
    clause all_false

-- in what is learned, one-sided variables stand only negated, and only where they are assumed
pub learned_as_assumed : (IsKind : List Lit → Type 0) (clauses : List (List Lit))
    (assumed : List Lit)
    (clause : List Lit) → All (StandsIn clauses) clause → AreOpposed clauses assumed clause
    → AreAsAssumed IsKind clauses assumed clause
learned_as_assumed IsKind clauses assumed clause stand opposites var is =
    record {
      negated = lacks_unnegated IsKind clauses clause var stand is;
      assumed_so =
          λ here. free_is_assumed IsKind clauses assumed var is
          (subst (IsAssumedOrFree clauses assumed) (negation_of_negative var)
          (All-contains (λ lit. IsAssumedOrFree clauses assumed (negation lit)) clause
          (negative var) opposites here));
    }
