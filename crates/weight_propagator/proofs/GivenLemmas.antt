-- The clause that a cause gives.
use Rattle.std.proofs.Common.{◌≡◌, ◌≢◌, ◌≤◌, ◌<◌, ◌+◌, ◌%◌, ◌⊎◌, ℕ, Bool, true, false}
use Rattle.std.proofs.Common.{not}
use Rattle.std.proofs.Common.{cond, eqb, List, [], ◌∷◌, length, get_or, Option, Some, None, refl}
use Rattle.std.proofs.Common.{sym, ap, ◌∙◌, subst, inl, inr, arith}
use Rattle.std.specs.Prelude.{All, Any}
use Rattle.std.proofs.lemmas.Bool.{eqb-true, false≢true, ne_eqb}
use Rattle.std.proofs.lemmas.List.{get_or_default}
use Rattle.std.proofs.lemmas.List.Elements.{All-contains, All-cons, All-head, All-tail}
use Rattle.std.proofs.lemmas.List.Kept.{AllPairs-cons}
use Rattle.clause_store.specs.declared.literal.Lit.{Lit}
use Rattle.clause_store.specs.declared.literal.Value.{Value}
use Rattle.clause_store.specs.declared.literal.Value.TheVariants.{Yes, No, Unset}
use Rattle.clause_store.specs.declared.step.Step.{Step}
use Rattle.clause_store.specs.Clause.{variable, negation, makes_true, IsOver}
use Rattle.clause_store.specs.Clause.{HasNoVariableTwice}
use Rattle.clause_store.specs.Trail.{Assigned, step_of, value_by, value_of}
use Rattle.clause_store.specs.Standing.{IsFalse}
use Rattle.clause_store.proofs.LiteralLemmas.{any_or_none, cases_has, variable-negation}
use Rattle.clause_store.proofs.LiteralLemmas.{is_negated-negation}
use Rattle.item_list.proofs.ListLemmas.{sum_by-agree, sum_by-add}
use Rattle.weight_propagator.specs.declared.row.Term.{Term}
use Rattle.weight_propagator.specs.declared.row.Row.{Row}
use Rattle.weight_propagator.specs.declared.side.Side.{Side}
use Rattle.weight_propagator.specs.declared.side.Side.TheVariants.{Reached, Missed}
use Rattle.weight_propagator.specs.Weighed.{IsFalseButOne}
use Rattle.weight_propagator.specs.Rows.{all_sum, IsRow, is_on, is_extra, denial, head, is_taken}
use Rattle.weight_propagator.specs.Rows.{side_weight, side_sum, goal_of, IsReason}
use Rattle.weight_propagator.specs.Rows.{IsCause, MeansRow, IsGivenBy}
use Rattle.normal_program.proofs.lemmas.Base.TruthLemmas.{variable-positive, variable-negative}
use Rattle.normal_program.proofs.lemmas.Base.TruthLemmas.{makes_true-positive, makes_true-negative}
use Rattle.weight_propagator.proofs.ValueLemmas.{or_cases, unset_same, is_that, variable-denial}

-- where each literal is false or the one that is unset, all are false or all but that one
pub false_but_one : (trail : Assigned) (clause : List Lit) (unset : Lit)
    → value_of trail.steps unset ≡ Unset
    → All (λ lit. IsFalse trail.steps lit ⊎ (lit ≡ unset)) clause → IsFalseButOne trail clause
false_but_one trail clause unset is all =
    elim (cases_has clause unset) [
      | inl here ↦ inr (
        unset,
        record {
          here = here;
          unset = is;
          others = λ k d within differs.
              elim (all k d within) [ inl no_one ↦ no_one | inr same ↦ absurd (differs same) ];
        },
      )
      | inr lacks ↦ inl
          (λ k d within. elim (all k d within) [
            | inl no_one ↦ no_one
            | inr same ↦ absurd (lacks (k, within, at k d within same))
          ])
    ]
  where
    at : (k : ℕ) (d : Lit) → k < length clause → get_or clause k d ≡ unset
        → get_or clause k unset ≡ unset
    at k d within same = get_or_default clause k unset d within ∙ same

-- ---- values

pub negation_differs : (lit : Lit) → (negation lit).0 ≢ lit.0
negation_differs lit same =
    let e : (negation lit).0 % 2 ≡ lit.0 % 2 = ap (λ n. n % 2) same in
    flips (eqb (lit.0 % 2) 1) (sym (is_negated-negation lit) ∙ ap (λ n. eqb n 1) e)
  where
    flips : (b : Bool) → not b ≡ b → ⊥
    flips true is = false≢true is
    flips false is = false≢true (sym is)

-- the negation of a true literal is false
pub no_negation : (steps : List Step) (lit : Lit) → value_of steps lit ≡ Yes
    → value_of steps (negation lit) ≡ No
no_negation steps lit is = go (step_of steps (variable lit)) refl is
  where
    by : (step : Step) (b : Bool) → eqb step.lit.0 lit.0 ≡ b → cond b Yes No ≡ Yes
        → value_by (Some step) (negation lit) ≡ No
    by step true same yes_one =
        ap (λ c. cond c Yes No)
        (ne_eqb step.lit.0 (negation lit).0
        (λ e. negation_differs lit (sym e ∙ eqb-true step.lit.0 lit.0 same)))
    by step false other yes_one = absurd (cc)

    go : (o : Option Step) → step_of steps (variable lit) ≡ o
        → value_by (step_of steps (variable lit)) lit ≡ Yes
        → value_of steps (negation lit) ≡ No
    go None none yes_one =
        absurd (let e : Unset ≡ Yes = sym (ap (λ s. value_by s lit) none) ∙ yes_one in cc)
    go (Some step) some yes_one =
        ap (λ s. value_by s (negation lit))
        (ap (step_of steps) (variable-negation lit) ∙ some)
        ∙ by step (eqb step.lit.0 lit.0) refl (sym (ap (λ s. value_by s lit) some) ∙ yes_one)

on_yes : (value : Value) → is_on Reached value ≡ true → value ≡ Yes
on_yes Yes is = refl
on_yes No is = absurd (false≢true is)
on_yes Unset is = absurd (false≢true is)

on_no : (value : Value) → is_on Missed value ≡ true → value ≡ No
on_no Yes is = absurd (false≢true is)
on_no No is = refl
on_no Unset is = absurd (false≢true is)

-- the denial of a literal on the side is false
pub denied : (side : Side) (steps : List Step) (lit : Lit)
    → is_on side (value_of steps lit) ≡ true → IsFalse steps (denial side lit)
denied Reached steps lit is = no_negation steps lit (on_yes (value_of steps lit) is)
denied Missed steps lit is = on_no (value_of steps lit) is

-- ---- sums

sides_cell : (values : List Bool) (term : Term)
    → side_weight Reached values term + side_weight Missed values term ≡ term.weight
sides_cell values term = by (makes_true values term.lit)
  where
    by : (b : Bool) → cond b term.weight 0 + cond b 0 term.weight ≡ term.weight
    by true = omega arith
    by false = omega arith

-- both sides together have all weights
pub sides_sum : (values : List Bool) (terms : List Term)
    → side_sum Reached values terms + side_sum Missed values terms ≡ all_sum terms
sides_sum values terms =
    sym (sum_by-add (side_weight Reached values) (side_weight Missed values) terms)
    ∙ sum_by-agree
    (λ term. side_weight Reached values term + side_weight Missed values term)
    (λ (term : Term). term.weight) terms (λ k d h. sides_cell values (get_or terms k d))

-- ---- the clause

-- the head holds where enough is on its side
pub head_holds : (side : Side) (row : Row) (values : List Bool) → MeansRow values row
    → goal_of side row ≤ side_sum side values row.terms → makes_true values (head side row) ≡ true
head_holds Reached row values means enough =
    makes_true-positive values row.var.0 ∙ means.holds enough
head_holds Missed row values means enough =
    makes_true-negative values row.var.0
    ∙ ap not (means.fails (omega (arith, enough, sides_sum values row.terms)))

pub variable-head : (side : Side) (row : Row) → variable (head side row) ≡ row.var.0
variable-head Reached row = variable-positive row.var.0
variable-head Missed row = variable-negative row.var.0

module _ (vars : ℕ) (trail : Assigned) (row : Row) (side : Side) (extra : Option Lit)
    (is : IsRow vars row) (fits : vars ≤ trail.vars)
    (added : List Lit)
    (taken :
    All
    (λ lit. Any
    (λ term. (is_taken side trail.steps extra term ≡ true) × (lit ≡ denial side term.lit))
    row.terms)
    added)
  where
    -- the literal of a term
    of_term : (lit : Lit)
        → Any
        (λ term. (is_taken side trail.steps extra term ≡ true) × (lit ≡ denial side term.lit))
        row.terms → Any (λ (term : Term). variable lit ≡ variable term.lit) row.terms
    of_term lit (k, term, within, at, (chosen, denies)) =
        (k, term, within, at, ap variable denies ∙ variable-denial side term.lit)

    over_by : (lit : Lit) (var : ℕ) → variable lit ≡ var → 1 ≤ var → var ≤ vars
        → IsOver trail.vars lit
    over_by lit var same low high = record {
      first = omega (arith, same, low);
      last = omega (arith, same, high, fits);
    }

    pub all_over : All (IsOver trail.vars) (head side row ∷ added)
    all_over =
        All-cons (IsOver trail.vars) (head side row) added
        (over_by (head side row) row.var.0 (variable-head side row) is.first is.last)
        (λ k d within.
        let (j, term, inside, at, same) = of_term (get_or added k d) (taken k d within) in
        let one : IsOver vars term.lit =
        All-contains (λ (t : Term). IsOver vars t.lit) row.terms term is.over (j, inside, at) in
        over_by (get_or added k d) (variable term.lit) same one.first one.last)

    pub all_of : All
        (λ lit. (variable lit ≡ row.var.0)
        ⊎ Any (λ (term : Term). variable lit ≡ variable term.lit) row.terms) (head side row ∷ added)
    all_of =
        All-cons
        (λ lit. (variable lit ≡ row.var.0)
        ⊎ Any (λ (term : Term). variable lit ≡ variable term.lit) row.terms) (head side row) added
        (inl (variable-head side row))
        (λ k d within. inr (of_term (get_or added k d) (taken k d within)))

    pub no_twice : HasNoVariableTwice added → HasNoVariableTwice (head side row ∷ added)
    no_twice once =
        AllPairs-cons (λ one two. variable one ≢ variable two) (head side row) added
        (λ k d within same.
        let (j, term, inside, at, that) = of_term (get_or added k d) (taken k d within) in
        All-contains (λ (t : Term). variable t.lit ≢ row.var.0) row.terms term is.apart
        (j, inside, at)
        (sym that ∙ sym same ∙ variable-head side row)) once

    -- each literal is false, but for the extra one
    all_false : (unset : Lit)
        → ((lit : Lit) → extra ≡ Some lit → denial side lit ≡ unset)
        → All (λ lit. IsFalse trail.steps lit ⊎ (lit ≡ unset)) added
    all_false unset one k d within = by (taken k d within)
      where
        by : {lit : Lit}
            → Any
            (λ term. (is_taken side trail.steps extra term ≡ true) × (lit ≡ denial side term.lit))
            row.terms → IsFalse trail.steps lit ⊎ (lit ≡ unset)
        by (j, term, inside, at, (chosen, denies)) =
            elim (or_cases (is_on side (value_of trail.steps term.lit)) (is_extra extra term.lit)
            chosen) [
              | inl on ↦ inl
                  (ap (value_of trail.steps) denies ∙ denied side trail.steps term.lit on)
              | inr that ↦ inr (denies ∙ one term.lit (is_that extra term.lit that))
            ]

    unset_denial : (one : Side) (lit : Lit) → value_of trail.steps lit ≡ Unset
        → value_of trail.steps (denial one lit) ≡ Unset
    unset_denial one lit unset =
        unset_same trail.steps (denial one lit) lit (variable-denial one lit) unset

    with_head : (value : Value) → value_of trail.steps (head side row) ≡ value → extra ≡ None
        → value ≢ Yes → IsFalseButOne trail (head side row ∷ added)
    with_head Yes at none not_yes = absurd (not_yes refl)
    with_head No at none not_yes =
        inl
        (All-cons (IsFalse trail.steps) (head side row) added at
        (λ k d within. elim (all_false (head side row)
        (λ lit some. absurd (let e : None ≡ Some lit = sym none ∙ some in cc)) k d within) [
          | inl no_one ↦ no_one
          | inr same ↦ ap (value_of trail.steps) same ∙ at
        ]))
    with_head Unset at none not_yes =
        false_but_one trail (head side row ∷ added) (head side row) at
        (All-cons (λ lit. IsFalse trail.steps lit ⊎ (lit ≡ head side row)) (head side row) added
        (inr refl)
        (all_false (head side row)
        (λ lit some. absurd (let e : None ≡ Some lit = sym none ∙ some in cc))))

    pub one_open : (extra ≡ None) × (value_of trail.steps (head side row) ≢ Yes)
        ⊎ ((lit : Lit) × (extra ≡ Some lit) × (value_of trail.steps lit ≡ Unset)
        × (value_of trail.steps (head side row) ≡ No))
        → IsFalseButOne trail (head side row ∷ added)
    one_open (inl (none, not_yes)) =
        with_head (value_of trail.steps (head side row)) refl none not_yes
    one_open (inr (lit, some, unset, no_one)) =
        false_but_one trail (head side row ∷ added) (denial side lit) (unset_denial side lit unset)
        (All-cons (λ one. IsFalse trail.steps one ⊎ (one ≡ denial side lit)) (head side row) added
        (inl no_one)
        (all_false (denial side lit)
        (λ other is_other. ap (denial side)
        (let e : Some other ≡ Some lit = sym is_other ∙ some in cc))))

-- the clause of a reason is given by the body
pub given_by : (vars : ℕ) (trail : Assigned) (row : Row) (side : Side) (extra : Option Lit)
    (clause : List Lit) → IsRow vars row → vars ≤ trail.vars
    → IsCause trail.steps row side extra
    → IsReason side trail.steps extra row.terms (goal_of side row) (head side row ∷ []) clause
    → IsGivenBy row trail clause
given_by vars trail row side extra clause is fits cause reason =
    subst (IsGivenBy row trail) (sym reason.appended)
    (record {
      gives = cause.gives;
      follows = λ values means.
          elim (any_or_none (makes_true values) (head side row ∷ reason.added)) [
            | inl some ↦ some
            | inr none ↦ absurd
                (false≢true
                (sym
                (All-head (λ lit. makes_true values lit ≡ false) (head side row) reason.added none)
                ∙ head_holds side row values means
                (reason.enough values
                (All-tail (λ lit. makes_true values lit ≡ false) (head side row) reason.added
                none))))
          ];
      only = all_of vars trail row side extra is fits reason.added reason.taken;
      standing =
          one_open vars trail row side extra is fits reason.added reason.taken cause.standing;
      once = no_twice vars trail row side extra is fits reason.added reason.taken reason.once;
      over = all_over vars trail row side extra is fits reason.added reason.taken;
    })
