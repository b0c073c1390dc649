-- The kept bodies of a normal form: how they are made, and what all of them say.
use Rattle.std.proofs.Common.{◌≡◌, ◌≢◌, ◌≤◌, ◌<◌, ◌+◌, ◌*◌, ℕ, Bool, true, false}
use Rattle.std.proofs.Common.{cond, List, [], ◌∷◌, ◌++◌, length, map, get_or, take, Option}
use Rattle.std.proofs.Common.{Some, slice_get, refl, sym, ap, ◌∙◌, subst, inl, inr, arith}
use Rattle.std.specs.Prelude.{Result, Ok, Err, IfOk}
use Rattle.std.specs.Prelude.{All, Any, Contains, filter, sum_by, if◌then◌else◌}
use Rattle.std.proofs.lemmas.Bool.{cases_eq, false≢true}
use Rattle.std.proofs.lemmas.List.{append-nil, get_or_default, length-append, map-append}
use Rattle.std.proofs.lemmas.List.Elements.{All-contains, All-nil, All-push, All-filter, All-map}
use Rattle.std.proofs.lemmas.List.Elements.{filter_more}
use Rattle.std.proofs.lemmas.List.Kept.{AllPairs-filter}
use Rattle.std.proofs.lemmas.List.Quantifiers.{Any-push}
use Rattle.std.proofs.lemmas.List.Sorted.{All-permutation, sum_by-IsPermutation}
use Rattle.std.proofs.lemmas.List.Sums.{sum_by_more}
use Rattle.std.proofs.lemmas.Option.{same_Some, slice_get_within}
use Rattle.ground_program.specs.declared.program.AtomLit.{AtomLit}
use Rattle.clause_store.specs.declared.literal.Lit.{Lit}
use Rattle.clause_store.specs.declared.step.Step.{Step}
use Rattle.clause_store.specs.declared.theory_says.Says.{Says}
use Rattle.clause_store.specs.declared.theory_says.Says.TheVariants.{Quiet, Clause as Given}
use Rattle.clause_store.specs.Clause.{variable}
use Rattle.clause_store.specs.Trail.{Assigned}
use Rattle.normal_program.specs.declared.normal.Part.{Part}
use Rattle.normal_program.specs.declared.normal.BodyOf.{BodyOf}
use Rattle.normal_program.specs.declared.normal.Normal.{Normal}
use Rattle.normal_program.specs.Body.{rank, is_conjunctive}
use Rattle.normal_program.specs.Normal.{body_var, greatest_body_var}
use Rattle.normal_program.specs.Clauses.{positive, negative, literal_of}
use Rattle.normal_program.specs.Limit.{IsNormal}
use Rattle.normal_program.specs.Loop.{IsAtomOf}
use Rattle.item_list.proofs.ListLemmas.{Any-append_left}
use Rattle.weight_propagator.specs.declared.row.Term.{Term}
use Rattle.weight_propagator.specs.declared.row.Row.{Row}
use Rattle.weight_propagator.specs.Gives.{IsQuiet}
use Rattle.weight_propagator.specs.Weighed.{IsGiven, IsSaid}
use Rattle.weight_propagator.specs.Kept.{IsSettled}
use Rattle.weight_propagator.specs.Rows.{all_sum, RowGives, IsRow, IsSized, IsGivenBy, is_kept}
use Rattle.weight_propagator.specs.Rows.{given_weight, term_of, kept_terms, given_sum}
use Rattle.weight_propagator.specs.Rows.{IsRowOf, IsRowIn, AreRowsTo, AreRows}
use Rattle.normal_program.proofs.lemmas.Base.TruthLemmas.{variable-literal_of}
use Rattle.weight_propagator.proofs.BodyLemmas.{IsFit, normal_body}
use Rattle.weight_propagator.proofs.CaseLemmas.{sum_by-below}
use Rattle.weight_propagator.proofs.KeptLemmas.{sum_by-kept, row_gives, body_gives}
use Rattle.weight_propagator.proofs.OrderLemmas.{all_pairs_map, distinct_permutation}
use Rattle.weight_propagator.proofs.MeaningLemmas.{follows_for}

-- ---- one body

rank_by : (one two : Bool) (a b : ℕ)
    → (if one then 2 * a + 1 else 2 * a) ≡ (if two then 2 * b + 1 else 2 * b)
    → a + a + (if one then 0 else 1) ≡ b + b + (if two then 0 else 1)
rank_by true true a b same = omega (arith, same)
rank_by true false a b same = absurd (omega (arith, same))
rank_by false true a b same = absurd (omega (arith, same))
rank_by false false a b same = omega (arith, same)

abbrev code : Lit → ℕ
code lit = lit.0

code_of : (lit : AtomLit)
    → code (literal_of lit) ≡ (if lit.negated then 2 * lit.atom + 1 else 2 * lit.atom)
code_of lit = by lit.negated
  where
    by : (b : Bool)
        → code (if b then negative lit.atom else positive lit.atom)
        ≡ (if b then 2 * lit.atom + 1 else 2 * lit.atom)
    by true = refl
    by false = refl

-- literals with one code have one rank
same_rank : (one two : AtomLit) → literal_of one ≡ literal_of two → rank one ≡ rank two
same_rank one two same =
    rank_by one.negated two.negated one.atom two.atom
    (sym (code_of one) ∙ ap code same ∙ code_of two)

pub kept_weight : (inside : Option (List Bool)) (parts : List Part)
    → all_sum (kept_terms inside parts)
    ≡ sum_by (λ part. if is_kept inside part then part.weight else 0) parts
kept_weight inside parts =
    sum_by-kept (is_kept inside) term_of (λ (term : Term). term.weight) parts

pub at_most_part : (keeps : Bool) (weight : ℕ) → (if keeps then weight else 0) ≤ weight
at_most_part true weight = omega arith
at_most_part false weight = omega arith

-- a kept body is sound
pub row_is_sound : (inside : Option (List Bool)) (normal : Normal) → IsNormal normal → (number : ℕ)
    (body : BodyOf) (row : Row) → number < length normal.bodies
    → IsRowOf inside normal number body row → IsRow (greatest_body_var normal) row
row_is_sound inside normal is_normal number body row within is =
    let fit : IsFit normal body = normal_body normal is_normal number body is.here in
    let atoms : All (λ (term : Term). IsAtomOf normal (variable term.lit)) row.terms =
    All-permutation (λ (term : Term). IsAtomOf normal (variable term.lit))
    (kept_terms inside body.parts) row.terms is.kept.terms
    (All-map (λ (term : Term). IsAtomOf normal (variable term.lit)) term_of
    (filter (is_kept inside) body.parts)
    (All-filter (is_kept inside) (λ part. IsAtomOf normal (variable (literal_of part.lit)))
    body.parts
    (λ k d low. subst (IsAtomOf normal) (sym (variable-literal_of (get_or body.parts k d).lit))
    (fit.atoms k d low)))) in
    record {
      distinct =
          distinct_permutation (kept_terms inside body.parts) row.terms is.kept.terms
          (all_pairs_map (λ (one two : Term). one.lit ≢ two.lit) term_of
          (filter (is_kept inside) body.parts)
          (AllPairs-filter (λ (one two : Part). literal_of one.lit ≢ literal_of two.lit)
          (is_kept inside) body.parts
          (λ i j d before low same.
          let less : rank (get_or body.parts i d).lit < rank (get_or body.parts j d).lit =
          fit.order i j d before low in
          absurd
          (omega
          (arith, less, same_rank (get_or body.parts i d).lit (get_or body.parts j d).lit same)))));
      descending = is.kept.descending;
      apart = λ k d low same.
          let atom = atoms k d low in
          absurd (omega (arith, atom.last, same, is.kept.var));
      over = λ k d low. let atom = atoms k d low in
          record { first = atom.first; last = omega (arith, atom.last) };
      first = omega (arith, is.kept.var);
      last = omega (arith, is.kept.var, within);
      sized = record {
        var = omega (arith, is.kept.var, within, is_normal.few);
        bound = omega (arith, is.kept.bound, fit.bound);
        few =
            omega (
              arith,
              sum_by-IsPermutation (λ (term : Term). term.weight) (kept_terms inside body.parts)
                  row.terms is.kept.terms,
              kept_weight inside body.parts,
              fit.few,
              sum_by-below (λ (part : Part). if is_kept inside part then part.weight else 0)
                  (λ (part : Part). part.weight)
                  (λ part. at_most_part (is_kept inside part) part.weight) body.parts,
            );
        full = is.kept.full;
      };
    }

-- over more variables it is sound as well
pub row_over_more : (few many : ℕ) (row : Row) → few ≤ many → IsRow few row → IsRow many row
row_over_more few many row more is = record {
  distinct = is.distinct;
  descending = is.descending;
  apart = is.apart;
  over = λ k d low. let one = is.over k d low in
      record { first = one.first; last = omega (arith, one.last, more) };
  first = is.first;
  last = omega (arith, is.last, more);
  sized = is.sized;
}

-- ---- making a body

module _ (inside : Option (List Bool)) (parts : List Part) (i : ℕ) (d : Part)
    (within : i < length parts) where
  front_more : kept_terms inside (take (i + 1) parts)
      ≡ kept_terms inside (take i parts)
      ++ map term_of (cond (is_kept inside (get_or parts i d)) (get_or parts i d ∷ []) [])
  front_more =
      ap (map term_of) (filter_more (is_kept inside) parts i d within)
      ∙ map-append term_of (filter (is_kept inside) (take i parts))
      (cond (is_kept inside (get_or parts i d)) (get_or parts i d ∷ []) [])

  pub terms_with : is_kept inside (get_or parts i d) ≡ true
      → kept_terms inside (take (i + 1) parts)
      ≡ kept_terms inside (take i parts) ++ term_of (get_or parts i d) ∷ []
  terms_with keeps =
      front_more
      ∙ ap
      (λ b. kept_terms inside (take i parts) ++ map term_of (cond b (get_or parts i d ∷ []) []))
      keeps

  pub terms_without : is_kept inside (get_or parts i d) ≡ false
      → kept_terms inside (take (i + 1) parts) ≡ kept_terms inside (take i parts)
  terms_without drops =
      front_more
      ∙ ap
      (λ b. kept_terms inside (take i parts) ++ map term_of (cond b (get_or parts i d ∷ []) []))
      drops
      ∙ append-nil (kept_terms inside (take i parts))

  pub given_more : (weight : ℕ) → given_weight inside (get_or parts i d) ≡ weight
      → given_sum inside (take (i + 1) parts) ≡ given_sum inside (take i parts) + weight
  given_more weight is =
      sum_by_more (given_weight inside) parts i d within
      ∙ ap (λ n. given_sum inside (take i parts) + n) is

  pub full_more : (keeps : Bool) → is_kept inside (get_or parts i d) ≡ keeps
      → sum_by (λ part. if is_kept inside part then part.weight else 0) (take (i + 1) parts)
      ≡ sum_by (λ part. if is_kept inside part then part.weight else 0) (take i parts)
      + (if keeps then (get_or parts i d).weight else 0)
  full_more keeps is =
      sum_by_more (λ part. if is_kept inside part then part.weight else 0) parts i d within
      ∙ ap
      (λ b. sum_by (λ part. if is_kept inside part then part.weight else 0) (take i parts)
      + (if b then (get_or parts i d).weight else 0)) is

-- ---- making all of them

module _ (inside : Option (List Bool)) (normal : Normal) (number : ℕ) (rows : List Row)
    (are : AreRowsTo inside normal number rows) where
  -- a weight body more
  pub rows_with : (body : BodyOf) (row : Row) → IsRowOf inside normal number body row
      → AreRowsTo inside normal (number + 1) (rows ++ row ∷ [])
  rows_with body row is = record {
    few = omega (arith, are.few, length-append rows (row ∷ []));
    each =
        All-push (IsRowIn inside normal) rows row are.each
        (record { number = number; body = body; is = is });
    complete = λ at other low here weight.
        elim (cases_eq at number) [
          | inl same ↦
              let same_body : body ≡ other =
              same_Some body other (sym is.here ∙ ap (slice_get normal.bodies) (sym same) ∙ here) in
              subst (λ n. Any (IsRowOf inside normal n other) (rows ++ row ∷ [])) (sym same)
              (subst (λ b. Any (IsRowOf inside normal number b) (rows ++ row ∷ [])) same_body
              (Any-push (IsRowOf inside normal number body) rows row is))
          | inr differs ↦
              Any-append_left (IsRowOf inside normal at other) rows (row ∷ [])
              (are.complete at other (omega (arith, low, differs)) here weight)
        ];
  }

  -- a conjunctive body more
  pub rows_without : (body : BodyOf) → slice_get normal.bodies number ≡ Some body
      → is_conjunctive body ≡ true → AreRowsTo inside normal (number + 1) rows
  rows_without body here conjunctive = record {
    few = omega (arith, are.few);
    each = are.each;
    complete = λ at other low there weight.
        elim (cases_eq at number) [
          | inl same ↦
              let same_body : body ≡ other =
              same_Some body other (sym here ∙ ap (slice_get normal.bodies) (sym same) ∙ there) in
              absurd
              (false≢true (sym weight ∙ ap is_conjunctive (sym same_body) ∙ conjunctive))
          | inr differs ↦ are.complete at other (omega (arith, low, differs)) there weight
        ];
  }

pub rows_none : (inside : Option (List Bool)) (normal : Normal) → AreRowsTo inside normal 0 []
rows_none inside normal = record {
  few = omega arith;
  each = All-nil (IsRowIn inside normal);
  complete = λ at other low here weight. absurd (omega (arith, low));
}

-- ---- what all of them say

module _ (inside : Option (List Bool)) (normal : Normal) (rows : List Row)
    (are : AreRows inside normal rows) where
  pub row_at : (row : Row) → Contains rows row → IsRowIn inside normal row
  row_at row here = All-contains (IsRowIn inside normal) rows row are.all.each here

  -- each of them is sound
  pub each_sound : (vars : ℕ) → greatest_body_var normal ≤ vars → (row : Row) → Contains rows row
      → IsRow vars row
  each_sound vars more row here =
      let in_normal = row_at row here in
      row_over_more (greatest_body_var normal) vars row more
      (row_is_sound inside normal are.normal_form in_normal.number in_normal.body row
      (slice_get_within normal.bodies in_normal.number in_normal.body in_normal.is.here)
      in_normal.is)

  pub all_sound : (vars : ℕ) → greatest_body_var normal ≤ vars → All (IsRow vars) rows
  all_sound vars more k d within =
      each_sound vars more (get_or rows k d)
      (k, within, get_or_default rows k (get_or rows k d) d within)

  -- and far from wrapping
  pub all_sized : All IsSized rows
  all_sized k d within =
      (all_sound (greatest_body_var normal) (omega arith) k d within).sized

  -- where none of them gives a clause, no weight body does
  pub all_quiet : (steps : List Step) → All (λ row. ¬ RowGives steps row) rows
      → IsQuiet inside normal steps
  all_quiet steps none number body here weight gives =
      let some =
      are.all.complete number body (slice_get_within normal.bodies number body here) here weight in
      All-contains (λ row. ¬ RowGives steps row) rows some.1 none (some.0, some.2, some.3)
      (row_gives inside steps body (body_var normal number) some.1 some.4.kept gives)

  -- a clause that one of them gives is given
  pub one_given : (trail : Assigned) (row : Row) (clause : List Lit) → Contains rows row
      → IsGivenBy row trail clause → IsGiven inside normal trail clause
  one_given trail row clause here is =
      let in_normal = row_at row here in
      record {
        some = record {
          number = in_normal.number;
          body = in_normal.body;
          here = in_normal.is.here;
          weight = in_normal.is.weight;
          gives =
              body_gives inside trail.steps in_normal.body (body_var normal in_normal.number) row
              in_normal.is.kept is.gives;
        };
        follows =
            follows_for inside normal are.normal_form are.over in_normal.number in_normal.body row
            in_normal.is clause is.only is.follows;
        standing = is.standing;
        once = is.once;
        over = is.over;
      }

  -- so what is found of all kept bodies is the answer
  pub all_said : (trail : Assigned) (clause : List Lit) (says : Says)
      → IsSettled rows trail clause says → IsSaid inside normal trail clause says
  all_said trail clause Quiet none = all_quiet trail.steps none
  all_said trail clause Given (k, row, within, at, is) =
      one_given trail row clause (k, within, at) is

  pub all_said_if : {E : Type 0} (trail : Assigned) (clause : List Lit) (result : Result Says E)
      → IfOk result (IsSettled rows trail clause) → IfOk result (IsSaid inside normal trail clause)
  all_said_if trail clause (Ok says) is = all_said trail clause says is
  all_said_if trail clause (Err why) is = tt
