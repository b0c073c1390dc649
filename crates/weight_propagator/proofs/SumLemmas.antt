-- The sums of a body after one assignment more, and which bodies it leaves as they are.
use Rattle.std.proofs.Common.{◌≡◌, ◌≢◌, ◌≤◌, ◌<◌, ◌+◌, ℕ, Bool, true, false}
use Rattle.std.proofs.Common.{not, cond, eqb, List, [], ◌∷◌, ◌++◌, length, get_or}
use Rattle.std.proofs.Common.{None, refl, sym, ap, ◌∙◌, subst, inl, inr, arith}
use Rattle.std.specs.Prelude.{All, if◌then◌else◌, ◌||◌}
use Rattle.std.proofs.lemmas.Bool.{cases_eq, eqb-true, eqb-false, eq-eqb, ne_eqb}
use Rattle.std.proofs.lemmas.Bool.{false≢true}
use Rattle.std.proofs.lemmas.List.Sums.{sum_by-cons, get_or-le-sum_by}
use Rattle.clause_store.specs.declared.literal.Lit.{Lit}
use Rattle.clause_store.specs.declared.literal.Value.TheVariants.{Yes, No, Unset}
use Rattle.clause_store.specs.declared.step.Step.{Step}
use Rattle.clause_store.specs.Clause.{variable, negation, is_negated}
use Rattle.clause_store.specs.Trail.{step_of, value_by, value_of}
use Rattle.clause_store.proofs.LiteralLemmas.{lit_of_code, variable-negation, is_negated-negation}
use Rattle.clause_store.proofs.StepLemmas.{value_of_new, value_of_other}
use Rattle.normal_program.specs.Clauses.{positive, negative}
use Rattle.item_list.proofs.ListLemmas.{sum_by-agree, sum_by-add, sum_by-le_each}
use Rattle.weight_propagator.specs.declared.row.Term.{Term}
use Rattle.weight_propagator.specs.declared.row.Row.{Row}
use Rattle.weight_propagator.specs.declared.side.Side.{Side}
use Rattle.weight_propagator.specs.declared.side.Side.TheVariants.{Reached, Missed}
use Rattle.weight_propagator.specs.Gives.{if_true, unless_true, unless_false}
use Rattle.weight_propagator.specs.Gives.GivesBy.{reached, missed, needs, refuses}
use Rattle.weight_propagator.specs.Rows.{all_sum, yes_sum, not_no_sum, RowGives}
use Rattle.weight_propagator.specs.Rows.{is_on, is_taken}
use Rattle.weight_propagator.specs.Sums.{looked_at, code_sum, shown, on_sum, itself, one_each}
use Rattle.weight_propagator.proofs.ValueLemmas.{other_code}

-- ---- the two literals of a variable

own_negation : (b : Bool) → b ≡ not b → ⊥
own_negation true is = false≢true (sym is)
own_negation false is = false≢true is

negation_differs : (lit : Lit) → lit.0 ≢ (negation lit).0
negation_differs lit same =
    own_negation (is_negated lit)
    (ap is_negated (lit_of_code lit (negation lit) same) ∙ is_negated-negation lit)

-- a literal of the variable that isn't this one is its negation
is_negation : (lit one : Lit) → variable one ≡ variable lit → lit.0 ≢ one.0
    → one.0 ≡ (negation lit).0
is_negation lit one same other =
    sym (other_code (negation lit).0 one.0 lit.0 (variable-negation lit ∙ sym same)
    (sym (variable-negation lit)) (negation_differs lit) other)

variable-shown : (side : Side) (lit : Lit) → variable (shown side lit) ≡ variable lit
variable-shown Reached lit = refl
variable-shown Missed lit = variable-negation lit

-- a literal with neither code is of another variable
other_variable : (lit one : Lit) → one.0 ≢ lit.0 → one.0 ≢ (negation lit).0
    → variable lit ≢ variable one
other_variable lit one not_it not_negation same =
    not_negation (is_negation lit one (sym same) (λ e. not_it (sym e)))

-- ---- one literal

module _ (front : List Step) (step : Step)
    (unset : step_of front (variable step.lit) ≡ None) where
  -- a literal of the variable comes on the side where it is the one that is shown
  new_cell : (side : Side) (term : Term) → variable step.lit ≡ variable term.lit
      → (b : Bool) → eqb step.lit.0 term.lit.0 ≡ b
      → cond (is_on side (cond b Yes No) || false) term.weight 0
      ≡ cond (eqb term.lit.0 (shown side step.lit).0) term.weight 0
  new_cell Reached term same true is =
      rw (eq-eqb term.lit.0 step.lit.0 (sym (eqb-true step.lit.0 term.lit.0 is))) refl
  new_cell Reached term same false is =
      rw (ne_eqb term.lit.0 step.lit.0 (λ e. eqb-false step.lit.0 term.lit.0 is (sym e))) refl
  new_cell Missed term same true is =
      rw
      (ne_eqb term.lit.0 (negation step.lit).0
      (λ e. negation_differs step.lit (eqb-true step.lit.0 term.lit.0 is ∙ e)))
      refl
  new_cell Missed term same false is =
      rw
      (eq-eqb term.lit.0 (negation step.lit).0
      (is_negation step.lit term.lit (sym same) (eqb-false step.lit.0 term.lit.0 is)))
      refl

  off_unset : (side : Side) (weight : ℕ) → cond (is_on side Unset || false) weight 0 ≡ 0
  off_unset Reached weight = refl
  off_unset Missed weight = refl

  was_unset : (lit : Lit) → variable step.lit ≡ variable lit → value_of front lit ≡ Unset
  was_unset lit same =
      ap (λ v. value_by (step_of front v) lit) (sym same) ∙ ap (λ o. value_by o lit) unset

  pub cell : (side : Side) (term : Term)
      → cond (is_taken side (front ++ step ∷ []) None term) term.weight 0
      ≡ cond (is_taken side front None term) term.weight 0
      + cond (eqb term.lit.0 (shown side step.lit).0) (itself term.weight) 0
  cell side term =
      elim (cases_eq (variable step.lit) (variable term.lit)) [
        | inl same ↦
            let new : cond (is_taken side (front ++ step ∷ []) None term) term.weight 0
            ≡ cond (eqb term.lit.0 (shown side step.lit).0) term.weight 0 =
            ap (λ v. cond (is_on side v || false) term.weight 0)
            (value_of_new front step term.lit unset same)
            ∙ new_cell side term same (eqb step.lit.0 term.lit.0) refl in
            let old : cond (is_taken side front None term) term.weight 0 ≡ 0 =
            ap (λ v. cond (is_on side v || false) term.weight 0) (was_unset term.lit same)
            ∙ off_unset side term.weight in
            omega (arith, new, old)
        | inr other ↦
            let kept : cond (is_taken side (front ++ step ∷ []) None term) term.weight 0
            ≡ cond (is_taken side front None term) term.weight 0 =
            ap (λ v. cond (is_on side v || false) term.weight 0)
            (value_of_other front step term.lit other) in
            let none : cond (eqb term.lit.0 (shown side step.lit).0) (itself term.weight) 0 ≡ 0 =
            ap (λ b. cond b term.weight 0)
            (ne_eqb term.lit.0 (shown side step.lit).0
            (λ e. other
            (sym
            (ap variable (lit_of_code term.lit (shown side step.lit) e)
            ∙ variable-shown side step.lit)))) in
            omega (arith, kept, none)
      ]

  -- a sum of a side grows by what the literal that comes on it weighs
  pub on_sum_more : (side : Side) (terms : List Term)
      → on_sum side (front ++ step ∷ []) terms
      ≡ on_sum side front terms + code_sum itself (shown side step.lit).0 terms
  on_sum_more side terms =
      sum_by-agree
      (λ (term : Term). if is_taken side (front ++ step ∷ []) None term then term.weight else 0)
      (λ (term : Term). (if is_taken side front None term then term.weight else 0)
      + (if eqb term.lit.0 (shown side step.lit).0 then itself term.weight else 0)) terms
      (λ k d within. cell side (get_or terms k d))
      ∙ sum_by-add
      (λ (term : Term). if is_taken side front None term then term.weight else 0)
      (λ (term : Term). if eqb term.lit.0 (shown side step.lit).0 then itself term.weight else 0)
      terms

  -- where neither literal of the variable occurs, no value changes
  pub untouched : (terms : List Term) → code_sum one_each step.lit.0 terms ≡ 0
      → code_sum one_each (negation step.lit).0 terms ≡ 0
      → All (λ (term : Term). value_of (front ++ step ∷ []) term.lit ≡ value_of front term.lit)
      terms
  untouched terms none_yes none_no k d within =
      value_of_other front step (get_or terms k d).lit
      (other_variable step.lit (get_or terms k d).lit (absent step.lit.0 none_yes)
      (absent (negation step.lit).0 none_no))
    where
      absent : (code : ℕ) → code_sum one_each code terms ≡ 0 → (get_or terms k d).lit.0 ≢ code
      absent code none here =
          let low : cond (eqb (get_or terms k d).lit.0 code) (one_each 0) 0
          ≤ code_sum one_each code terms =
          get_or-le-sum_by
          (λ (term : Term). if eqb term.lit.0 code then one_each term.weight else 0) terms k d
          within in
          let one : cond (eqb (get_or terms k d).lit.0 code) (one_each 0) 0 ≡ one_each 0 =
          ap (λ b. cond b (one_each 0) 0) (eq-eqb (get_or terms k d).lit.0 code here) in
          omega (arith, low, one, none)

at_most : (b : Bool) (weight : ℕ) → cond b weight 0 ≤ weight
at_most true weight = omega arith
at_most false weight = omega arith

-- a side has at most all
pub on_sum_most : (side : Side) (steps : List Step) (terms : List Term)
    → on_sum side steps terms ≤ all_sum terms
on_sum_most side steps terms =
    sum_by-le_each
    (λ (term : Term). if is_taken side steps None term then term.weight else 0)
    (λ (term : Term). term.weight) terms
    (λ k d within. at_most (is_taken side steps None (get_or terms k d)) (get_or terms k d).weight)

-- ---- a body whose literals keep their values gives what it gave

none_weighs : (b : Bool) → cond b (itself 0) 0 ≡ itself 0
none_weighs true = refl
none_weighs false = refl

-- the literals of its variable weigh nothing
pub looked_sum : (row : Row) (code : ℕ)
    → code_sum itself code (looked_at row) ≡ code_sum itself code row.terms
looked_sum row code =
    let weigh : Term → ℕ = λ term. cond (eqb term.lit.0 code) (itself term.weight) 0 in
    let yes : Term = record { lit = positive row.var.0; weight = 0 } in
    let no : Term = record { lit = negative row.var.0; weight = 0 } in
    omega (
      arith,
      sum_by-cons weigh yes (no ∷ row.terms),
      sum_by-cons weigh no row.terms,
      none_weighs (eqb (positive row.var.0).0 code),
      none_weighs (eqb (negative row.var.0).0 code),
    )

module _ (old new : List Step) (row : Row)
    (var : value_of old (positive row.var.0) ≡ value_of new (positive row.var.0))
    (values : All (λ (term : Term). value_of old term.lit ≡ value_of new term.lit) row.terms) where
  same_yes : yes_sum old row.terms ≡ yes_sum new row.terms
  same_yes =
      sum_by-agree (λ (term : Term). if_true (value_of old term.lit) term.weight)
      (λ (term : Term). if_true (value_of new term.lit) term.weight) row.terms
      (λ k d within. ap (λ v. if_true v (get_or row.terms k d).weight) (values k d within))

  same_open : not_no_sum old row.terms ≡ not_no_sum new row.terms
  same_open =
      sum_by-agree (λ (term : Term). unless_false (value_of old term.lit) term.weight)
      (λ (term : Term). unless_false (value_of new term.lit) term.weight) row.terms
      (λ k d within. ap (λ v. unless_false v (get_or row.terms k d).weight) (values k d within))

  value_at : (k : ℕ) (term : Term) → k < length row.terms → get_or row.terms k term ≡ term
      → value_of old term.lit ≡ value_of new term.lit
  value_at k term within is =
      subst (λ (one : Term). value_of old one.lit ≡ value_of new one.lit) is (values k term within)

  pub gives_same : RowGives old row → RowGives new row
  gives_same (reached enough not_yes) =
      reached (omega (arith, enough, same_yes)) (λ e. not_yes (var ∙ e))
  gives_same (missed short not_no) =
      missed (omega (arith, short, same_open)) (λ e. not_no (var ∙ e))
  gives_same (needs is_yes (k, term, within, is, (not_yes, short))) =
      needs (sym var ∙ is_yes) (
        k,
        term,
        within,
        is,
        (
          λ e. not_yes (value_at k term within is ∙ e),
          omega (
            arith,
            short,
            same_open,
            ap (λ v. unless_false v term.weight) (value_at k term within is),
          ),
        ),
      )
  gives_same (refuses is_no (k, term, within, is, (not_no, enough))) =
      refuses (sym var ∙ is_no) (
        k,
        term,
        within,
        is,
        (
          λ e. not_no (value_at k term within is ∙ e),
          omega (
            arith,
            enough,
            same_yes,
            ap (λ v. unless_true v term.weight) (value_at k term within is),
          ),
        ),
      )
