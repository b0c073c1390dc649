-- At a fixpoint the true literals are closed under unit propagation.
use Rattle.std.proofs.Common.{◌≡◌, ◌≢◌, ◌⊎◌, ℕ, ◌-◌, ◌+◌, ◌/◌, ◌%◌, Bool, true, false, not, cond}
use Rattle.std.proofs.Common.{eqb, List, [], ◌∷◌, Option, None, Some, map, get_or, refl, sym, ap}
use Rattle.std.proofs.Common.{◌∙◌, subst, inl, inr, arith}
use Rattle.std.specs.Prelude.{All, Contains, find}
use Rattle.std.proofs.lemmas.Bool.{cases_Bool, false≢true, eqb-true, eqb-false, eq-eqb, ne_eqb}
use Rattle.std.proofs.lemmas.List.Elements.{All-contains, All-filter, All-map, filter_passes}
use Rattle.std.proofs.lemmas.Option.{same_Some}
use Rattle.clause_store.specs.declared.literal.Lit.{Lit}
use Rattle.clause_store.specs.declared.literal.Value.{Value}
use Rattle.clause_store.specs.declared.literal.Value.TheVariants.{Yes, No, Unset}
use Rattle.clause_store.specs.declared.step.Step.{Step}
use Rattle.clause_store.specs.Clause.{variable, negation, is_negated}
use Rattle.clause_store.specs.Entailment.{InClosure, IsClosed, Refutes, negations, others}
use Rattle.clause_store.specs.Trail.{Assigned, IsTrail, step_of, value_by, value_of}
use Rattle.clause_store.specs.Standing.{ForcesOn}
use Rattle.clause_store.proofs.LiteralLemmas.{cases_lit, has_first, has_later, has_mapped}
use Rattle.clause_store.proofs.LiteralLemmas.{is_negated-negation, lit_of_code, mapped_from}
use Rattle.clause_store.proofs.LiteralLemmas.{variable-negation}
use Rattle.clause_store.proofs.TrailLemmas.{find_passes}
use Rattle.propagator.specs.Fixpoint.{IsFixpoint, IsQuietOn}
use Rattle.propagator.specs.Laws.{FixpointHasClosure, FixpointRefutesNone, FixpointAbsorbsNoUnit}
use Rattle.propagator.proofs.HoldLemmas.{assigned_yes}

-- the literals of the assignments
abbrev pub lits_of : List Step → List Lit
lits_of steps = map (λ step. step.lit) steps

find_has : {X : Type 0} (p : X → Bool) (xs : List X) (x : X) → find p xs ≡ Some x → Contains xs x
find_has p [] x is = absurd (cc)
find_has p (y ∷ xs) x is = go (p y) is (find_has p xs x)
  where
    go : (b : Bool) → cond b (Some y) (find p xs) ≡ Some x → (find p xs ≡ Some x → Contains xs x)
        → Contains (y ∷ xs) x
    go true is rest = subst (Contains (y ∷ xs)) (same_Some y x is) (has_first y xs)
    go false is rest = has_later y x xs (rest is)

-- an assigned literal is true
has_yes : (trail : Assigned) (lit : Lit) → IsTrail trail → Contains (lits_of trail.steps) lit
    → value_of trail.steps lit ≡ Yes
has_yes trail lit is here =
    let from = mapped_from (λ step. step.lit) trail.steps lit here in
    subst (λ l. value_of trail.steps l ≡ Yes) (ap (λ step. step.lit) from.1.2 ∙ from.2)
    (assigned_yes trail from.1.0 from.0 is from.1.1)

true_of_yes : (b : Bool) → cond b Yes No ≡ Yes → b ≡ true
true_of_yes true is = refl
true_of_yes false is = absurd (cc)

false_of_no : (b : Bool) → cond b Yes No ≡ No → b ≡ false
false_of_no true is = absurd (cc)
false_of_no false is = refl

-- and a true one is assigned
yes_has : (steps : List Step) (lit : Lit) → value_of steps lit ≡ Yes → Contains (lits_of steps) lit
yes_has steps lit is = go (step_of steps (variable lit)) refl is
  where
    go : (o : Option Step) → step_of steps (variable lit) ≡ o → value_by o lit ≡ Yes
        → Contains (lits_of steps) lit
    go None found is = absurd (cc)
    go (Some step) found is =
        subst (Contains (lits_of steps))
        (lit_of_code step.lit lit
        (eqb-true step.lit.0 lit.0 (true_of_yes (eqb step.lit.0 lit.0) is)))
        (has_mapped (λ s. s.lit) steps step
        (find_has (λ s. eqb (variable s.lit) (variable lit)) steps step found))

not_same : (b : Bool) → not b ≡ b → ⊥
not_same true e = absurd (cc)
not_same false e = absurd (cc)

negation_differs : (lit : Lit) → (negation lit).0 ≡ lit.0 → ⊥
negation_differs lit same =
    not_same (is_negated lit) (sym (is_negated-negation lit) ∙ ap (λ n. eqb (n % 2) 1) same)

-- a literal whose negation is true is false
negated_no : (steps : List Step) (lit : Lit) → value_of steps (negation lit) ≡ Yes
    → value_of steps lit ≡ No
negated_no steps lit is =
    go (step_of steps (variable lit))
    (ap (λ v. value_by (step_of steps v) (negation lit)) (sym (variable-negation lit)) ∙ is)
  where
    go : (o : Option Step) → value_by o (negation lit) ≡ Yes → value_by o lit ≡ No
    go None is = absurd (cc)
    go (Some step) is =
        let same : step.lit.0 ≡ (negation lit).0 =
        eqb-true step.lit.0 (negation lit).0
        (true_of_yes (eqb step.lit.0 (negation lit).0) is) in
        ap (λ b. cond b Yes No) (ne_eqb step.lit.0 lit.0 (λ e. negation_differs lit (sym same ∙ e)))

-- two literals of one variable that differ are negations of each other
other_is_negation : (one two : ℕ) → one / 2 ≡ two / 2 → one ≢ two
    → one ≡ cond (eqb (two % 2) 1) (two - 1) (two + 1)
other_is_negation one two same differ =
    elim (cases_Bool (eqb (two % 2) 1)) [
      | inl odd ↦ rw odd (let two_odd : two % 2 ≡ 1 = eqb-true (two % 2) 1 odd in omega arith)
      | inr even ↦ rw even (let two_even : two % 2 ≢ 1 = eqb-false (two % 2) 1 even in omega arith)
    ]

-- and the negation of a false literal is true
pub no_negated : (steps : List Step) (lit : Lit) → value_of steps lit ≡ No
    → value_of steps (negation lit) ≡ Yes
no_negated steps lit is =
    ap (λ v. value_by (step_of steps v) (negation lit)) (variable-negation lit)
    ∙ go (step_of steps (variable lit)) refl is
  where
    go : (o : Option Step) → step_of steps (variable lit) ≡ o → value_by o lit ≡ No
        → value_by o (negation lit) ≡ Yes
    go None found is = absurd (cc)
    go (Some step) found is =
        let differ : step.lit.0 ≢ lit.0 =
        eqb-false step.lit.0 lit.0 (false_of_no (eqb step.lit.0 lit.0) is) in
        let same : variable step.lit ≡ variable lit =
        eqb-true (variable step.lit) (variable lit)
        (find_passes (λ s. eqb (variable s.lit) (variable lit)) steps step found) in
        ap (λ b. cond b Yes No)
        (eq-eqb step.lit.0 (negation lit).0 (other_is_negation step.lit.0 lit.0 same differ))

-- ---- the fixpoint

fixpoint_closed : (trail : Assigned) (clauses : List (List Lit)) → IsTrail trail
    → IsFixpoint clauses trail.steps → IsClosed clauses (lits_of trail.steps)
fixpoint_closed trail clauses is fixpoint k d within lit forced = go (value_of trail.steps lit) refl
  where
    clause : List Lit
    clause = get_or clauses k d

    others_no : All (λ other. other ≢ lit → value_of trail.steps other ≡ No) clause
    others_no i e lt differ =
        negated_no trail.steps (get_or clause i e)
        (has_yes trail (negation (get_or clause i e)) is (forced.others i e lt differ))

    all_no : value_of trail.steps lit ≡ No → All (λ other. value_of trail.steps other ≡ No) clause
    all_no is_no i e lt =
        elim (cases_lit (get_or clause i e) lit) [
          | inl same ↦ subst (λ l. value_of trail.steps l ≡ No) (sym same) is_no
          | inr differ ↦ others_no i e lt differ
        ]

    go : (value : Value) → value_of trail.steps lit ≡ value → Contains (lits_of trail.steps) lit
    go Yes value = yes_has trail.steps lit value
    go No value = absurd ((fixpoint k d within).not_false (all_no value))
    go Unset value =
        absurd
        ((fixpoint k d within).not_unit lit
        (record { here = forced.here; unset = value; others = others_no }))

pub fixpoint_has_closure : FixpointHasClosure
fixpoint_has_closure trail clauses lits lit is fixpoint true_lits drawn =
    has_yes trail lit is
    (drawn (lits_of trail.steps)
    (λ k d within. yes_has trail.steps (get_or lits k d) (true_lits k d within))
    (fixpoint_closed trail clauses is fixpoint))

pub fixpoint_refutes_none : FixpointRefutesNone
fixpoint_refutes_none trail clauses lits is fixpoint true_lits refuted =
    let clause = refuted.1 in
    (All-contains (IsQuietOn trail.steps) clauses clause fixpoint
    (refuted.0, refuted.2, refuted.3)).not_false
    (λ i e lt. negated_no trail.steps (get_or clause i e)
    (fixpoint_has_closure trail clauses lits (negation (get_or clause i e)) is fixpoint true_lits
    (refuted.4 i e lt)))

passes_apart : (one two : Lit) → not (eqb one.0 two.0) ≡ true → one ≢ two
passes_apart one two passes same = let e : eqb one.0 two.0 ≡ true =
    eq-eqb one.0 two.0 (ap (λ l. l.0) same) in let f : true ≡ false = sym passes ∙ ap not e in
    absurd (false≢true (sym f))

-- the negations of the literals of a unit other than its own are true
others_true : (steps : List Step) (clause : List Lit) (lit : Lit) → ForcesOn steps clause lit
    → All (λ it. value_of steps it ≡ Yes) (negations (others clause lit))
others_true steps clause lit is =
    All-map (λ it. value_of steps it ≡ Yes) negation (others clause lit)
    (λ k d within. no_negated steps (get_or (others clause lit) k d)
    (All-filter (λ other. not (eqb other.0 lit.0))
    (λ other. other ≢ lit → value_of steps other ≡ No) clause is.others k d within
    (passes_apart (get_or (others clause lit) k d) lit
    (filter_passes (λ other. not (eqb other.0 lit.0)) clause k d within))))

-- no unit clause is absorbed at a fixpoint
pub fixpoint_absorbs_no_unit : FixpointAbsorbsNoUnit
fixpoint_absorbs_no_unit trail clauses clause lit is fixpoint unit absorbed =
    elim
    (All-contains
    (λ it. Refutes clauses (negations (others clause it))
    ⊎ InClosure clauses (negations (others clause it)) it) clause lit absorbed unit.here) [
      | inl refuted ↦ fixpoint_refutes_none trail clauses (negations (others clause lit)) is
          fixpoint (others_true trail.steps clause lit unit) refuted
      | inr drawn ↦
          (let is_yes : value_of trail.steps lit ≡ Yes =
          fixpoint_has_closure trail clauses (negations (others clause lit)) lit is fixpoint
          (others_true trail.steps clause lit unit) drawn in
          cc (is_yes, unit.unset))
    ]
