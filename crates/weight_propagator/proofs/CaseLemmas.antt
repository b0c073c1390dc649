-- What the sums of a body show, and why it gives a clause then.
use Rattle.std.proofs.Common.{◌≡◌, ◌≢◌, ◌≤◌, ◌<◌, ◌+◌, ◌*◌, ◌/◌, ℕ, zero, suc, Bool, true}
use Rattle.std.proofs.Common.{false, cond, eqb, List, [], ◌∷◌, length, get_or, Option, Some, None}
use Rattle.std.proofs.Common.{refl, sym, ap, ◌∙◌, subst, inl, inr, arith}
use Rattle.std.specs.Prelude.{Any, sum_by, if◌then◌else◌, ◌||◌}
use Rattle.std.proofs.lemmas.Bool.{cases_Bool, eqb-true, eqb-false, eq-eqb, ne_eqb}
use Rattle.std.proofs.lemmas.List.Sums.{sum_by-cons}
use Rattle.clause_store.specs.declared.literal.Lit.{Lit}
use Rattle.clause_store.specs.declared.literal.Value.{Value}
use Rattle.clause_store.specs.declared.literal.Value.TheVariants.{Yes, No, Unset}
use Rattle.clause_store.specs.declared.step.Step.{Step}
use Rattle.clause_store.specs.Clause.{variable}
use Rattle.clause_store.specs.Trail.{step_of, value_by, value_of}
use Rattle.clause_store.proofs.TrailLemmas.{find_passes}
use Rattle.normal_program.specs.Clauses.{positive, negative}
use Rattle.item_list.proofs.ListLemmas.{sum_by-agree, sum_by-add}
use Rattle.weight_propagator.specs.declared.row.Term.{Term}
use Rattle.weight_propagator.specs.declared.row.Row.{Row}
use Rattle.weight_propagator.specs.declared.side.Side.{Side}
use Rattle.weight_propagator.specs.declared.side.Side.TheVariants.{Reached, Missed}
use Rattle.weight_propagator.specs.Gives.{if_true, unless_true, unless_false}
use Rattle.weight_propagator.specs.Gives.GivesBy.{reached, missed, needs, refuses}
use Rattle.weight_propagator.specs.Rows.{term_value, all_sum, yes_sum, not_no_sum}
use Rattle.weight_propagator.specs.Rows.{IsSized, is_on, is_extra, is_taken, taken_sum}
use Rattle.weight_propagator.specs.Rows.{IsCause}
use Rattle.normal_program.proofs.lemmas.Base.TruthLemmas.{variable-positive, variable-negative}

-- ---- sums

module _ {X : Type 0} (f g : X → ℕ) (below : (x : X) → f x ≤ g x) where
  pub sum_by-below : (xs : List X) → sum_by f xs ≤ sum_by g xs
  sum_by-below [] = omega arith
  sum_by-below (x ∷ xs) =
      omega (arith, sum_by-cons f x xs, sum_by-cons g x xs, below x, sum_by-below xs)

  -- a sum of larger terms is larger by as much as one of them
  pub sum_by-more_at : (xs : List X) (k more : ℕ) (d : X) → k < length xs
      → f (get_or xs k d) + more ≤ g (get_or xs k d) → sum_by f xs + more ≤ sum_by g xs
  sum_by-more_at [] k more d within at = absurd (omega (arith, within))
  sum_by-more_at (x ∷ xs) zero more d within at =
      omega (arith, sum_by-cons f x xs, sum_by-cons g x xs, at, sum_by-below xs)
  sum_by-more_at (x ∷ xs) (suc k) more d within at =
      omega (
        arith,
        sum_by-cons f x xs,
        sum_by-cons g x xs,
        below x,
        sum_by-more_at xs k more d (omega arith) at,
      )

reached_cell : (value : Value) (weight : ℕ)
    → cond (is_on Reached value || false) weight 0 ≡ if_true value weight
reached_cell Yes weight = refl
reached_cell No weight = refl
reached_cell Unset weight = refl

missed_cell : (value : Value) (weight : ℕ)
    → cond (is_on Missed value || false) weight 0 + unless_false value weight ≡ weight
missed_cell Yes weight = omega arith
missed_cell No weight = omega arith
missed_cell Unset weight = omega arith

module _ (steps : List Step) (terms : List Term) where
  -- the literals on one side are the true ones
  pub taken_reached : taken_sum Reached steps None terms ≡ yes_sum steps terms
  taken_reached =
      sum_by-agree (λ term. if is_taken Reached steps None term then term.weight else 0)
      (λ (term : Term). if_true (value_of steps term.lit) term.weight) terms
      (λ k d h. reached_cell (value_of steps (get_or terms k d).lit) (get_or terms k d).weight)

  -- those on the other side are the false ones
  pub taken_missed : taken_sum Missed steps None terms + not_no_sum steps terms ≡ all_sum terms
  taken_missed =
      sym (sum_by-add (λ term. if is_taken Missed steps None term then term.weight else 0)
      (λ (term : Term). unless_false (value_of steps term.lit) term.weight) terms)
      ∙ sum_by-agree
      (λ (term : Term). (if is_taken Missed steps None term then term.weight else 0)
      + unless_false (value_of steps term.lit) term.weight)
      (λ (term : Term). term.weight) terms
      (λ k d h. missed_cell (value_of steps (get_or terms k d).lit) (get_or terms k d).weight)

  extra_cell : (a b : Bool) (weight : ℕ) → cond (a || false) weight 0 ≤ cond (a || b) weight 0
  extra_cell true b weight = omega arith
  extra_cell false b weight = omega arith

  on_unset : (side : Side) → is_on side Unset ≡ false
  on_unset Reached = refl
  on_unset Missed = refl

  -- an unset literal adds its weight
  pub taken_extra : (side : Side) (lit : Lit) (least : ℕ) → value_of steps lit ≡ Unset
      → Any (λ (term : Term). (term.lit ≡ lit) × (least ≤ term.weight)) terms
      → taken_sum side steps None terms + least ≤ taken_sum side steps (Some lit) terms
  taken_extra side lit least unset (k, term, within, is, (same, enough)) =
      sum_by-more_at (λ one. if is_taken side steps None one then one.weight else 0)
      (λ one. if is_taken side steps (Some lit) one then one.weight else 0)
      (λ one. extra_cell (is_on side (value_of steps one.lit)) (is_extra (Some lit) one.lit)
      one.weight) terms k least term within
      (subst
      (λ (one : Term). (if is_taken side steps None one then one.weight else 0) + least
      ≤ (if is_taken side steps (Some lit) one then one.weight else 0)) (sym is)
      (let off : is_on side (value_of steps term.lit) ≡ false =
      ap (is_on side) (ap (value_of steps) same ∙ unset) ∙ on_unset side in
      let that : is_extra (Some lit) term.lit ≡ true =
      eq-eqb lit.0 term.lit.0 (ap (λ (l : Lit). l.0) (sym same)) in
      let without : cond (is_taken side steps None term) term.weight 0 ≡ 0 =
      ap (λ b. cond (b || false) term.weight 0) off in
      let with_it : cond (is_taken side steps (Some lit) term) term.weight 0 ≡ term.weight =
      ap (λ b. cond (b || is_extra (Some lit) term.lit) term.weight 0) off
      ∙ ap (λ b. cond b term.weight 0) that in
      omega (arith, enough, without, with_it)))

-- ---- the literals of a variable

abbrev flipped : Value → Value
flipped Yes = No
flipped No = Yes
flipped Unset = Unset

by_code : (code var : ℕ) → code / 2 ≡ var
    → cond (eqb code (2 * var + 1)) Yes No ≡ flipped (cond (eqb code (2 * var)) Yes No)
by_code code var here =
    elim (cases_Bool (eqb code (2 * var))) [
      | inl even ↦
          let is : code ≡ 2 * var = eqb-true code (2 * var) even in
          rw (even, ne_eqb code (2 * var + 1) (λ e. omega arith)) refl
      | inr other ↦
          let isnt : code ≢ 2 * var = eqb-false code (2 * var) other in
          rw (other, eq-eqb code (2 * var + 1) (omega arith)) refl
    ]

pub value-negative : (steps : List Step) (var : ℕ)
    → value_of steps (negative var) ≡ flipped (value_of steps (positive var))
value-negative steps var =
    ap (λ v. value_by (step_of steps v) (negative var)) (variable-negative var)
    ∙ go (step_of steps var) refl
    ∙ sym (ap (λ v. flipped (value_by (step_of steps v) (positive var))) (variable-positive var))
  where
    go : (o : Option Step) → step_of steps var ≡ o
        → value_by (step_of steps var) (negative var)
        ≡ flipped (value_by (step_of steps var) (positive var))
    go None is = ap (λ s. value_by s (negative var)) is
        ∙ sym (ap (λ s. flipped (value_by s (positive var))) is)
    go (Some step) is =
        ap (λ s. value_by s (negative var)) is
        ∙ by_code step.lit.0 var
        (eqb-true (variable step.lit) var
        (find_passes (λ s. eqb (variable s.lit) var) steps step is))
        ∙ sym (ap (λ s. flipped (value_by s (positive var))) is)

flipped_yes : (value : Value) → flipped value ≡ Yes → value ≡ No
flipped_yes Yes is = absurd (cc)
flipped_yes No is = refl
flipped_yes Unset is = absurd (cc)

-- ---- causes

module _ (steps : List Step) (row : Row) (sized : IsSized row) where
  pub cause_reached : row.bound ≤ yes_sum steps row.terms
      → value_of steps (positive row.var.0) ≢ Yes → IsCause steps row Reached None
  cause_reached enough not_yes = record {
    gives = reached enough not_yes;
    enough = omega (arith, enough, taken_reached steps row.terms);
    standing = inl (refl, not_yes);
  }

  pub cause_missed : not_no_sum steps row.terms < row.bound
      → value_of steps (positive row.var.0) ≢ No → IsCause steps row Missed None
  cause_missed short not_no = record {
    gives = missed short not_no;
    enough = omega (arith, short, taken_missed steps row.terms);
    standing =
        inl (
          refl,
          λ is. not_no (flipped_yes _ (sym (value-negative steps row.var.0) ∙ is)),
        );
  }

  -- an unset literal of that weight
  some_open : (Q : Value → ℕ → Type 0) (lit : Lit) (least : ℕ) → value_of steps lit ≡ Unset
      → ((weight : ℕ) → least ≤ weight → Q Unset weight)
      → Any (λ (term : Term). (term.lit ≡ lit) × (least ≤ term.weight)) row.terms
      → Any (λ term. Q (term_value steps term) term.weight) row.terms
  some_open Q lit least unset holds (k, term, within, is, (same, enough)) = (
    k,
    term,
    within,
    is,
    subst (λ value. Q value term.weight) (sym (ap (value_of steps) same ∙ unset))
        (holds term.weight enough),
  )

  pub cause_needs : (lit : Lit) (least : ℕ) → value_of steps (positive row.var.0) ≡ Yes
      → value_of steps lit ≡ Unset → not_no_sum steps row.terms < row.bound + least
      → Any (λ (term : Term). (term.lit ≡ lit) × (least ≤ term.weight)) row.terms
      → IsCause steps row Missed (Some lit)
  cause_needs lit least is_yes unset short some = record {
    gives =
        needs is_yes
        (some_open
        (λ value weight. (value ≢ Yes)
        × (not_no_sum steps row.terms < row.bound + unless_false value weight)) lit least unset
        (λ weight enough. ((λ e. cc), omega (arith, short, enough))) some);
    enough =
        omega (
          arith,
          short,
          taken_missed steps row.terms,
          taken_extra steps row.terms Missed lit least unset some,
        );
    standing =
        inr (lit, refl, unset, value-negative steps row.var.0 ∙ ap flipped is_yes);
  }

  pub cause_refuses : (lit : Lit) (least : ℕ) → value_of steps (positive row.var.0) ≡ No
      → value_of steps lit ≡ Unset → row.bound ≤ yes_sum steps row.terms + least
      → Any (λ (term : Term). (term.lit ≡ lit) × (least ≤ term.weight)) row.terms
      → IsCause steps row Reached (Some lit)
  cause_refuses lit least is_no unset short some = record {
    gives =
        refuses is_no
        (some_open
        (λ value weight. (value ≢ No)
        × (row.bound ≤ yes_sum steps row.terms + unless_true value weight)) lit least unset
        (λ weight enough. ((λ e. cc), omega (arith, short, enough))) some);
    enough =
        omega (
          arith,
          short,
          taken_reached steps row.terms,
          taken_extra steps row.terms Reached lit least unset some,
        );
    standing = inr (lit, refl, unset, is_no);
  }
