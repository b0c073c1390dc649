-- Settled watched literals: when they are, and which clauses are neither false nor units then.
use Rattle.std.proofs.Common.{◌≡◌, ◌≢◌, ◌≤◌, ◌<◌, ℕ, Bool, true, false, cond, eqb, List}
use Rattle.std.proofs.Common.{length, get_or, map, Option, Some, None, refl, sym, ap, subst, ◌∙◌}
use Rattle.std.proofs.Common.{arith, inl, inr}
use Rattle.std.specs.Prelude.{All, Any, option_map}
use Rattle.std.proofs.lemmas.Bool.{cases_Bool, cases_lt, cases_eq, eqb-true, eqb-false}
use Rattle.std.proofs.lemmas.Option.{same_Some}
use Rattle.std.proofs.lemmas.List.{get_or_default, length-map}
use Rattle.std.proofs.lemmas.List.Elements.{All-contains}
use Rattle.clause_store.specs.declared.literal.Lit.{Lit}
use Rattle.clause_store.specs.declared.literal.Value.TheVariants.{Yes, No, Unset}
use Rattle.clause_store.specs.declared.step.Step.{Step}
use Rattle.clause_store.specs.Clause.{variable, negation, IsOver}
use Rattle.clause_store.specs.Trail.{Assigned, IsTrail, step_of, value_by, value_of, level_of}
use Rattle.clause_store.specs.Standing.{Followed, as_followed, IsFalse}
use Rattle.clause_store.proofs.LiteralLemmas.{cases_lit, lit_of_code, variable-negation}
use Rattle.clause_store.proofs.TrailLemmas.{find_passes}
use Rattle.clause_store.proofs.lemmas.Trails.ZeroLemmas.{other_is_negation}
use Rattle.propagator.specs.Fixpoint.{IsQuietOn}
use Rattle.propagator.specs.Watched.{Attached}
use Rattle.watched_literals.specs.declared.tables.Tables.{Tables}
use Rattle.watched_literals.specs.Watching.{AreNone, AreSettled, HoldsForGood, IsPair, IsSettled}
use Rattle.watched_literals.specs.Watching.{IsTrueBy}
use Rattle.watched_literals.specs.Walking.{ArePendingQuiet, IsRunning, SettlesAll}
use Rattle.watched_literals.proofs.KnownLemmas.{find_here, known_is, made_false, true_yes}
use Rattle.watched_literals.proofs.StandingLemmas.{quiet_satisfied}

abbrev no_step : Step
no_step = record { lit = record { 0 = 0 }; reason = None; level = 0 }

-- ---- how a literal became false

differ_of_no : (one two : ℕ) → cond (eqb one two) Yes No ≡ No → one ≢ two
differ_of_no one two is_no = eqb-false one two (go (eqb one two) is_no)
  where
    go : (b : Bool) → cond b Yes No ≡ No → b ≡ false
    go true is = absurd (cc)
    go false is = refl

-- what is found for a variable is an assignment of it
found_at : (steps : List Step) (lit : Lit) (step : Step)
    → step_of steps (variable lit) ≡ Some step
    → (k : ℕ) × (k < length steps) × (get_or steps k no_step ≡ step)
    × (variable step.lit ≡ variable lit)
found_at steps lit step found =
    let at = find_here (λ s. eqb (variable s.lit) (variable lit)) steps step found in (
      at.0,
      at.1,
      get_or_default steps at.0 no_step step at.1 ∙ at.2,
      eqb-true (variable step.lit) (variable lit)
          (find_passes (λ s. eqb (variable s.lit) (variable lit)) steps step found),
    )

-- an assignment made it false
pub false_made : (steps : List Step) (lit : Lit) → value_of steps lit ≡ No
    → (k : ℕ) × (k < length steps) × ((get_or steps k no_step).lit ≡ negation lit)
false_made steps lit is_no = go (step_of steps (variable lit)) refl is_no
  where
    go : (o : Option Step) → step_of steps (variable lit) ≡ o → value_by o lit ≡ No
        → (k : ℕ) × (k < length steps) × ((get_or steps k no_step).lit ≡ negation lit)
    go None found is = absurd (cc)
    go (Some step) found is =
        let at = found_at steps lit step found in (
          at.0,
          at.1,
          ap (λ (s : Step). s.lit) at.2
              ∙ lit_of_code step.lit (negation lit)
              (other_is_negation step.lit.0 lit.0 at.3 (differ_of_no step.lit.0 lit.0 is)),
        )

-- a variable has one assignment
same_place : (trail : Assigned) (i j : ℕ) → IsTrail trail → i < length trail.steps
    → j < length trail.steps
    → variable (get_or trail.steps i no_step).lit ≡ variable (get_or trail.steps j no_step).lit
    → i ≡ j
same_place trail i j is i_within j_within same =
    elim (cases_eq i j) [
      | inl equal ↦ equal
      | inr other ↦
          elim (cases_lt i j) [
            | inl before ↦ absurd (is.once i j no_step before j_within same)
            | inr after ↦
                absurd (is.once j i no_step (omega (arith, after, other)) i_within (sym same))
          ]
    ]

-- the level of a false literal is that of the assignment that made it false
level_at : (trail : Assigned) (at : ℕ) (d : Followed) (lit : Lit) (level : ℕ) → IsTrail trail
    → at < length trail.steps
    → (get_or (map as_followed trail.steps) at d).lit ≡ negation lit
    → level_of trail.steps (variable lit) ≡ Some level
    → (get_or (map as_followed trail.steps) at d).level ≡ level
level_at trail at d lit level is within makes level_is =
    go (step_of trail.steps (variable lit)) refl level_is
  where
    mine : get_or (map as_followed trail.steps) at d
        ≡ as_followed (get_or trail.steps at no_step)
    mine = known_is trail.steps at d within

    own : variable (get_or trail.steps at no_step).lit ≡ variable lit
    own =
        ap variable (ap (λ (it : Followed). it.lit) (sym mine) ∙ makes) ∙ variable-negation lit

    go : (o : Option Step) → step_of trail.steps (variable lit) ≡ o
        → option_map (λ (s : Step). s.level) o ≡ Some level
        → (get_or (map as_followed trail.steps) at d).level ≡ level
    go None found some = absurd (cc)
    go (Some step) found some =
        let there = found_at trail.steps lit step found in
        let same : at ≡ there.0 =
        same_place trail at there.0 is within there.1
        (own ∙ sym there.3 ∙ ap (λ (s : Step). variable s.lit) (sym there.2)) in
        ap (λ (f : Followed). f.level) mine
        ∙ ap (λ k. (get_or trail.steps k no_step).level) same
        ∙ ap (λ (s : Step). s.level) there.2
        ∙ same_Some step.level level some

-- ---- settled

-- a false literal is settled where the other one is true at its level or a lower one
pub settled_by : (trail : Assigned) (lit other : Lit) (level : ℕ) → IsTrail trail
    → level_of trail.steps (variable lit) ≡ Some level
    → IsTrueBy level (map as_followed trail.steps) other
    → SettlesAll (map as_followed trail.steps) lit other
settled_by trail lit other level is level_is true_is next at d before inside makes =
    subst (λ n. IsTrueBy n (map as_followed trail.steps) other)
    (sym (level_at trail at d lit level is
    (omega (arith, inside, length-map trail.steps as_followed)) makes level_is)) true_is

-- and a literal that isn't false is settled
pub settled_open : (trail : Assigned) (lit other : Lit) → IsTrail trail → ¬ IsFalse trail.steps lit
    → SettlesAll (map as_followed trail.steps) lit other
settled_open trail lit other is not_false next at d before inside makes =
    absurd
    (not_false
    (made_false trail at d lit is (omega (arith, inside, length-map trail.steps as_followed))
    makes))

none_settled : (trail : Assigned) (lit other : Lit) → IsTrail trail → lit.0 ≡ 0
    → SettlesAll (map as_followed trail.steps) lit other
none_settled trail lit other is zero next at d before inside makes =
    let within : at < length trail.steps =
    omega (arith, inside, length-map trail.steps as_followed) in
    let over : IsOver trail.vars (get_or trail.steps at no_step).lit =
    is.over at no_step within in
    let own : variable (get_or trail.steps at no_step).lit ≡ variable lit =
    ap variable
    (ap (λ (it : Followed). it.lit) (sym (known_is trail.steps at d within)) ∙ makes)
    ∙ variable-negation lit in
    absurd (omega (arith, own, over.first, zero))

-- so is a clause of fewer than two literals
pub short_settled : (trail : Assigned) (one two : Lit) → IsTrail trail → AreNone one two
    → (next : ℕ) → AreSettled (map as_followed trail.steps) next one two
short_settled trail one two is none next = record {
  first = none_settled trail one two is none.one_none next;
  second = none_settled trail two one is none.two_none next;
}

-- ---- quiet

other_yes : (trail : Assigned) (next : ℕ) (lit other : Lit) → IsTrail trail
    → length trail.steps ≤ next
    → IsSettled (map as_followed trail.steps) next lit other
    → value_of trail.steps lit ≡ No → value_of trail.steps other ≡ Yes
other_yes trail next lit other is all settled is_no =
    let made = false_made trail.steps lit is_no in
    let here : get_or (map as_followed trail.steps) made.0 (as_followed no_step)
    ≡ as_followed (get_or trail.steps made.0 no_step) =
    known_is trail.steps made.0 (as_followed no_step) made.1 in
    true_yes trail (get_or (map as_followed trail.steps) made.0 (as_followed no_step)).level other
    is
    (settled made.0 (as_followed no_step) (omega (arith, made.1, all))
    (omega (arith, made.1, length-map trail.steps as_followed))
    (ap (λ (it : Followed). it.lit) here ∙ made.2))

-- a clause whose watched literals are settled once all assignments are followed
pub quiet_settled : (trail : Assigned) (next : ℕ) (clause : List Lit) (one two : Lit)
    → IsTrail trail → length trail.steps ≤ next
    → AreSettled (map as_followed trail.steps) next one two → IsPair clause one two
    → IsQuietOn trail.steps clause
quiet_settled trail next clause one two is all settled pair =
    record {
      not_false =
          λ all_false. let one_no : value_of trail.steps one ≡ No =
          All-contains (IsFalse trail.steps) clause one all_false pair.one_here in
          let two_no : value_of trail.steps two ≡ No =
          All-contains (IsFalse trail.steps) clause two all_false pair.two_here in
          let two_yes : value_of trail.steps two ≡ Yes =
          other_yes trail next one two is all settled.first one_no in
          cc;
      not_unit =
          λ lit unit. elim (cases_lit one lit) [
            | inl same ↦
                let two_no : value_of trail.steps two ≡ No =
                All-contains (λ o. o ≢ lit → IsFalse trail.steps o) clause two unit.others
                pair.two_here (λ e. pair.differ (same ∙ sym e)) in
                let one_yes : value_of trail.steps one ≡ Yes =
                other_yes trail next two one is all settled.second two_no in
                let unset : value_of trail.steps one ≡ Unset =
                subst (λ l. value_of trail.steps l ≡ Unset) (sym same) unit.unset in
                cc
            | inr other ↦
                let one_no : value_of trail.steps one ≡ No =
                All-contains (λ o. o ≢ lit → IsFalse trail.steps o) clause one unit.others
                pair.one_here other in
                let two_yes : value_of trail.steps two ≡ Yes =
                other_yes trail next one two is all settled.first one_no in
                elim (cases_lit two lit) [
                  | inl same ↦
                      let unset : value_of trail.steps two ≡ Unset =
                      subst (λ l. value_of trail.steps l ≡ Unset) (sym same) unit.unset in
                      cc
                  | inr differs ↦
                      let two_no : value_of trail.steps two ≡ No =
                      All-contains (λ o. o ≢ lit → IsFalse trail.steps o) clause two unit.others
                      pair.two_here differs in
                      cc
                ]
          ];
    }

good_yes : (trail : Assigned) (clause : List Lit) → IsTrail trail
    → HoldsForGood (map as_followed trail.steps) clause
    → Any (λ lit. value_of trail.steps lit ≡ Yes) clause
good_yes trail clause is (k, lit, within, here, true_is) =
    (k, lit, within, here, true_yes trail 0 lit is true_is)

-- once all assignments are followed, all clauses are quiet if the pending ones are
pub all_quiet : (clauses : List (List Lit)) (entries : List Attached) (trail : Assigned)
    (tables : Tables) (next : ℕ) → IsRunning clauses entries trail tables next
    → length trail.steps ≤ next → ArePendingQuiet trail.steps entries tables.pending.waits
    → All (λ it. IsQuietOn trail.steps it.lits) entries
all_quiet clauses entries trail tables next running all pending number d within =
    elim (cases_Bool (get_or tables.pending.waits number false)) [
      | inl on ↦ pending number d within on
      | inr off ↦
          elim (running.watching.rows number d within) [
            | inl seated ↦
                quiet_settled trail next (get_or entries number d).lits _ _ running.is_trail all
                (running.watching.settled number within off) seated.pair
            | inr none_is ↦
                quiet_satisfied trail.steps (get_or entries number d).lits
                (good_yes trail (get_or entries number d).lits running.is_trail
                (running.watching.detached number d within none_is off))
          ]
    ]
