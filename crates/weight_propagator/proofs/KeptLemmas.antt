-- A body and the body as it is kept give clauses in the same cases.
use Rattle.std.proofs.Common.{◌≡◌, ◌≢◌, ◌≤◌, ◌<◌, ◌+◌, ℕ, Bool, true, false, not, cond, List, []}
use Rattle.std.proofs.Common.{◌∷◌, length, map, get_or, Option, Some, None, refl, sym, ap, ◌∙◌}
use Rattle.std.proofs.Common.{subst, inl, inr, arith, ◌⊎◌}
use Rattle.std.specs.Prelude.{All, Any, Contains, filter, sum_by, if◌then◌else◌}
use Rattle.std.specs.Prelude.{is_some}
use Rattle.std.proofs.lemmas.List.Sorted.{Contains-permutation, IsPermutation-sym}
use Rattle.std.proofs.lemmas.List.Sorted.{sum_by-IsPermutation}
use Rattle.std.proofs.lemmas.Bool.{cases_Bool, false≢true}
use Rattle.std.proofs.lemmas.List.Elements.{All-contains, All-contains_itself, All-filter}
use Rattle.std.proofs.lemmas.List.Sums.{sum_by-cons, get_or-le-sum_by}
use Rattle.ground_program.specs.Meaning.{has}
use Rattle.clause_store.specs.declared.literal.Value.{Value}
use Rattle.clause_store.specs.declared.literal.Value.TheVariants.{Yes, No}
use Rattle.clause_store.specs.declared.step.Step.{Step}
use Rattle.clause_store.specs.Trail.{value_of}
use Rattle.clause_store.proofs.LiteralLemmas.{any_from, has_kept, has_mapped, kept_passes}
use Rattle.clause_store.proofs.LiteralLemmas.{mapped_from}
use Rattle.normal_program.specs.declared.normal.Part.{Part}
use Rattle.normal_program.specs.declared.normal.BodyOf.{BodyOf}
use Rattle.normal_program.specs.Clauses.{positive, literal_of}
use Rattle.item_list.proofs.ListLemmas.{sum_by-agree, sum_by-add}
use Rattle.weight_propagator.specs.declared.row.Term.{Term}
use Rattle.weight_propagator.specs.declared.row.Row.{Row}
use Rattle.weight_propagator.specs.Gives.{value_in, if_true, unless_true, unless_false, true_sum}
use Rattle.weight_propagator.specs.Gives.{open_sum, Gives}
use Rattle.weight_propagator.specs.Gives.GivesBy.{reached, missed, needs, refuses}
use Rattle.weight_propagator.specs.Rows.{term_value, yes_sum, not_no_sum, RowGives, is_kept}
use Rattle.weight_propagator.specs.Rows.{weight_if, given_weight, term_of, kept_terms, given_sum}
use Rattle.weight_propagator.specs.Rows.{IsRowFor}
use Rattle.weight_propagator.proofs.OrderLemmas.{any_permutation}

-- the sum over the kept elements
pub sum_by-kept : {X Y : Type 0} (p : X → Bool) (g : X → Y) (f : Y → ℕ) (xs : List X)
    → sum_by f (map g (filter p xs)) ≡ sum_by (λ x. if p x then f (g x) else 0) xs
sum_by-kept p g f [] = refl
sum_by-kept p g f (x ∷ xs) =
    elim (cases_Bool (p x)) [
      | inl keeps ↦
          let cell : (if p x then f (g x) else 0) ≡ f (g x) = ap (λ b. cond b (f (g x)) 0) keeps in
          ap (λ b. sum_by f (map g (cond b (x ∷ filter p xs) (filter p xs)))) keeps
          ∙ omega (
            arith,
            sum_by-cons f (g x) (map g (filter p xs)),
            sum_by-kept p g f xs,
            sum_by-cons (λ y. if p y then f (g y) else 0) x xs,
            cell,
          )
      | inr drops ↦
          let cell : (if p x then f (g x) else 0) ≡ 0 = ap (λ b. cond b (f (g x)) 0) drops in
          ap (λ b. sum_by f (map g (cond b (x ∷ filter p xs) (filter p xs)))) drops
          ∙ omega (
            arith,
            sum_by-kept p g f xs,
            sum_by-cons (λ y. if p y then f (g y) else 0) x xs,
            cell,
          )
    ]

-- a sum over a body is that over what is kept, and what the set gives
pub kept_sum : (inside : Option (List Bool)) (f : Term → ℕ) (g : Part → ℕ) (parts : List Part)
    → All
    (λ part. g part ≡ (if is_kept inside part then f (term_of part) else 0)
    + given_weight inside part) parts
    → sum_by g parts ≡ sum_by f (kept_terms inside parts) + given_sum inside parts
kept_sum inside f g parts cells =
    sum_by-agree g
    (λ part. (if is_kept inside part then f (term_of part) else 0) + given_weight inside part)
    parts cells
    ∙ sum_by-add (λ part. if is_kept inside part then f (term_of part) else 0)
    (given_weight inside) parts
    ∙ ap (λ n. n + given_sum inside parts) (sym (sum_by-kept (is_kept inside) term_of f parts))

-- ---- the parts of a sum

-- a part adds what it does where it is kept, and else what the set gives
by_cell : (f : Value → ℕ → ℕ) (weight : ℕ) → f No weight ≡ 0 → f Yes weight ≡ weight
    → (negated within : Bool) (value : Value)
    → f (if negated then (if within then No else Yes) else value) weight
    ≡ (if not (is_some (if negated then Some (not within) else None)) then f value weight else 0)
    + weight_if (if negated then Some (not within) else None) weight
by_cell f weight none all true true value = omega (arith, none)
by_cell f weight none all true false value = omega (arith, all)
by_cell f weight none all false within value = omega arith

part_cell : (f : Value → ℕ → ℕ) (inside : Option (List Bool)) (steps : List Step) (part : Part)
    → f No part.weight ≡ 0 → f Yes part.weight ≡ part.weight
    → f (value_in inside steps part.lit) part.weight
    ≡ (if is_kept inside part then f (value_of steps (literal_of part.lit)) part.weight else 0)
    + given_weight inside part
part_cell f None steps part none all = omega arith
part_cell f (Some set) steps part none all =
    by_cell f part.weight none all part.lit.negated (has set part.lit.atom)
    (value_of steps (literal_of part.lit))

-- what the true literals weigh, and those that aren't false
pub kept_true_sum : (inside : Option (List Bool)) (steps : List Step) (parts : List Part)
    → true_sum (λ (part : Part). value_in inside steps part.lit) (λ (part : Part). part.weight)
    parts
    ≡ yes_sum steps (kept_terms inside parts) + given_sum inside parts
kept_true_sum inside steps parts =
    kept_sum inside (λ term. if_true (value_of steps term.lit) term.weight)
    (λ part. if_true (value_in inside steps part.lit) part.weight) parts
    (λ k d within. part_cell if_true inside steps (get_or parts k d) refl refl)

pub kept_open_sum : (inside : Option (List Bool)) (steps : List Step) (parts : List Part)
    → open_sum (λ (part : Part). value_in inside steps part.lit) (λ (part : Part). part.weight)
    parts
    ≡ not_no_sum steps (kept_terms inside parts) + given_sum inside parts
kept_open_sum inside steps parts =
    kept_sum inside (λ term. unless_false (value_of steps term.lit) term.weight)
    (λ part. unless_false (value_in inside steps part.lit) part.weight) parts
    (λ k d within. part_cell unless_false inside steps (get_or parts k d) refl refl)

-- ---- elements

-- a part that is kept is a term
pub kept_any : (inside : Option (List Bool)) (parts : List Part) (P : Term → Type 0) (part : Part)
    → Contains parts part → is_kept inside part ≡ true → P (term_of part)
    → Any P (kept_terms inside parts)
kept_any inside parts P part here keeps holds =
    any_from P (kept_terms inside parts) (term_of part)
    (has_mapped term_of (filter (is_kept inside) parts) part
    (has_kept (is_kept inside) parts part here keeps)) holds

-- and each term is such a part
pub kept_from : (inside : Option (List Bool)) (parts : List Part) (term : Term)
    → Contains (kept_terms inside parts) term
    → (part : Part) × Contains parts part × (is_kept inside part ≡ true) × (term_of part ≡ term)
kept_from inside parts term here =
    let (part, among, is) = mapped_from term_of (filter (is_kept inside) parts) term here in (
      part,
      All-contains (Contains parts) (filter (is_kept inside) parts) part
          (All-filter (is_kept inside) (Contains parts) parts (All-contains_itself parts)) among,
      kept_passes (is_kept inside) parts part among,
      is,
    )

-- the value of a part that is kept, and of one that isn't
pub kept_value : (inside : Option (List Bool)) (steps : List Step) (part : Part)
    → is_kept inside part ≡ true
    → value_in inside steps part.lit ≡ value_of steps (literal_of part.lit)
kept_value None steps part keeps = refl
kept_value (Some set) steps part keeps =
    by part.lit.negated (has set part.lit.atom) (value_of steps (literal_of part.lit)) keeps
  where
    by : (negated within : Bool) (value : Value)
        → not (is_some (if negated then Some (not within) else None)) ≡ true
        → (if negated then (if within then No else Yes) else value) ≡ value
    by true within value is = absurd (false≢true is)
    by false within value is = refl

pub judged_value : (inside : Option (List Bool)) (steps : List Step) (part : Part)
    → is_kept inside part ≡ false
    → (value_in inside steps part.lit ≡ Yes) ⊎ (value_in inside steps part.lit ≡ No)
judged_value None steps part drops = absurd (false≢true (sym drops))
judged_value (Some set) steps part drops =
    by part.lit.negated (has set part.lit.atom) (value_of steps (literal_of part.lit)) drops
  where
    by : (negated within : Bool) (value : Value)
        → not (is_some (if negated then Some (not within) else None)) ≡ false
        → ((if negated then (if within then No else Yes) else value) ≡ Yes)
        ⊎ ((if negated then (if within then No else Yes) else value) ≡ No)
    by true true value is = inr refl
    by true false value is = inl refl
    by false within value is = absurd (false≢true (sym is))

-- ---- the cases

module _ (inside : Option (List Bool)) (steps : List Step) (body : BodyOf) (var : ℕ) (row : Row)
    (is : IsRowFor inside body var row) where
  part_value : Part → Value
  part_value part = value_in inside steps part.lit

  trues : true_sum (λ (part : Part). value_in inside steps part.lit)
      (λ (part : Part). part.weight) body.parts
      ≡ yes_sum steps row.terms + given_sum inside body.parts
  trues = kept_true_sum inside steps body.parts
      ∙ ap (λ n. n + given_sum inside body.parts)
      (sym (sum_by-IsPermutation (λ term. if_true (term_value steps term) term.weight)
      (kept_terms inside body.parts) row.terms is.terms))

  opens : open_sum (λ (part : Part). value_in inside steps part.lit)
      (λ (part : Part). part.weight) body.parts
      ≡ not_no_sum steps row.terms + given_sum inside body.parts
  opens = kept_open_sum inside steps body.parts
      ∙ ap (λ n. n + given_sum inside body.parts)
      (sym (sum_by-IsPermutation (λ term. unless_false (term_value steps term) term.weight)
      (kept_terms inside body.parts) row.terms is.terms))

  var_value : value_of steps (positive row.var.0) ≡ value_of steps (positive var)
  var_value = ap (λ v. value_of steps (positive v)) is.var

  -- a term of the row
  to_term : (P : Term → Type 0) (k : ℕ) (part : Part) → k < length body.parts
      → get_or body.parts k part ≡ part → is_kept inside part ≡ true → P (term_of part)
      → Any P row.terms
  to_term P k part within at keeps holds =
      any_permutation P (kept_terms inside body.parts) row.terms is.terms
      (kept_any inside body.parts P part (k, within, at) keeps holds)

  -- what a body gives, the kept one gives
  pub row_gives : Gives inside steps var body → RowGives steps row
  row_gives (reached enough not_yes) =
      reached (omega (arith, enough, trues, is.bound))
      (λ yes_one. not_yes (sym var_value ∙ yes_one))
  row_gives (missed short not_no) =
      missed (omega (arith, short, opens, is.bound)) (λ no_one. not_no (sym var_value ∙ no_one))
  row_gives (needs is_yes (k, part, within, at, (not_yes, short))) =
      elim (cases_Bool (is_kept inside part)) [
        | inl keeps ↦
            needs (var_value ∙ is_yes)
            (to_term
            (λ term. (term_value steps term ≢ Yes)
            × (not_no_sum steps row.terms
            < row.bound + unless_false (term_value steps term) term.weight)) k part within
            at keeps (
              λ yes_one. not_yes (kept_value inside steps part keeps ∙ yes_one),
              omega (
                arith,
                short,
                opens,
                is.bound,
                ap (λ v. unless_false v part.weight) (kept_value inside steps part keeps),
              ),
            ))
        | inr drops ↦ elim (judged_value inside steps part drops) [
          | inl yes_one ↦ absurd (not_yes yes_one)
          | inr no_one ↦ missed
              (omega (
                arith,
                short,
                opens,
                is.bound,
                ap (λ v. unless_false v part.weight) no_one,
              ))
              (λ no_var. let e : Yes ≡ No = sym is_yes ∙ sym var_value ∙ no_var in cc)
        ]
      ]
  row_gives (refuses is_no (k, part, within, at, (not_no, enough))) =
      elim (cases_Bool (is_kept inside part)) [
        | inl keeps ↦
            refuses (var_value ∙ is_no)
            (to_term
            (λ term. (term_value steps term ≢ No)
            × (row.bound
            ≤ yes_sum steps row.terms + unless_true (term_value steps term) term.weight)) k part
            within at keeps (
              λ no_one. not_no (kept_value inside steps part keeps ∙ no_one),
              omega (
                arith,
                enough,
                trues,
                is.bound,
                ap (λ v. unless_true v part.weight) (kept_value inside steps part keeps),
              ),
            ))
        | inr drops ↦ elim (judged_value inside steps part drops) [
          | inl yes_one ↦ reached
              (omega (
                arith,
                enough,
                trues,
                is.bound,
                ap (λ v. unless_true v part.weight) yes_one,
              ))
              (λ yes_var. let e : No ≡ Yes = sym is_no ∙ sym var_value ∙ yes_var in cc)
          | inr no_one ↦ absurd (not_no no_one)
        ]
      ]

  from_term : (P : Term → Type 0) (Q : Part → Type 0)
      → ((part : Part) → is_kept inside part ≡ true → P (term_of part) → Q part)
      → Any P row.terms → Any Q body.parts
  from_term P Q from (k, term, within, at, holds) =
      let (part, here, keeps, same) =
      kept_from inside body.parts term
      (Contains-permutation row.terms (kept_terms inside body.parts) term
      (IsPermutation-sym (kept_terms inside body.parts) row.terms is.terms) (k, within, at))
      in
      any_from Q body.parts part here (from part keeps (subst P (sym same) holds))

  open_within : (k : ℕ) (term : Term) → k < length row.terms → get_or row.terms k term ≡ term
      → unless_false (term_value steps term) term.weight ≤ not_no_sum steps row.terms
  open_within k term within at =
      subst
      (λ (one : Term). unless_false (term_value steps one) one.weight ≤ not_no_sum steps row.terms)
      at
      (get_or-le-sum_by (λ (one : Term). unless_false (term_value steps one) one.weight) row.terms k
      term within)

  -- and the other way round
  pub body_gives : RowGives steps row → Gives inside steps var body
  body_gives (reached enough not_yes) =
      reached (omega (arith, enough, trues, is.bound)) (λ yes_one. not_yes (var_value ∙ yes_one))
  body_gives (missed short not_no) =
      missed (omega (arith, short, opens, is.bound)) (λ no_one. not_no (var_value ∙ no_one))
  body_gives (needs is_yes (k, term, within, at, (not_yes, short))) =
      let low : unless_false (term_value steps term) term.weight ≤ not_no_sum steps row.terms =
      open_within k term within at in
      needs (sym var_value ∙ is_yes)
      (from_term
      (λ one. (term_value steps one ≢ Yes)
      × (not_no_sum steps row.terms < row.bound + unless_false (term_value steps one) one.weight)
      × (unless_false (term_value steps one) one.weight ≤ not_no_sum steps row.terms))
      (λ part. (value_in inside steps part.lit ≢ Yes)
      × (open_sum (λ (one : Part). value_in inside steps one.lit) (λ (one : Part). one.weight)
      body.parts < body.bound + unless_false (value_in inside steps part.lit) part.weight))
      (λ part keeps facts. (
        λ yes_one. facts.0 (sym (kept_value inside steps part keeps) ∙ yes_one),
        omega (
          arith,
          facts.1,
          facts.2,
          opens,
          is.bound,
          ap (λ v. unless_false v part.weight) (kept_value inside steps part keeps),
        ),
      )) (k, term, within, at, (not_yes, short, low)))
  body_gives (refuses is_no some) =
      refuses (sym var_value ∙ is_no)
      (from_term
      (λ one. (term_value steps one ≢ No)
      × (row.bound ≤ yes_sum steps row.terms + unless_true (term_value steps one) one.weight))
      (λ part. (value_in inside steps part.lit ≢ No)
      × (body.bound
      ≤ true_sum (λ (one : Part). value_in inside steps one.lit) (λ (one : Part). one.weight)
      body.parts + unless_true (value_in inside steps part.lit) part.weight))
      (λ part keeps facts. (
        λ no_one. facts.0 (sym (kept_value inside steps part keeps) ∙ no_one),
        omega (
          arith,
          facts.1,
          trues,
          is.bound,
          ap (λ v. unless_true v part.weight) (kept_value inside steps part keeps),
        ),
      )) some)
