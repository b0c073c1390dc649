-- What a kept body means in the extensions of a normal form, so what follows for its clauses.
use Rattle.std.proofs.Common.{◌≡◌, ◌≤◌, ◌<◌, ◌+◌, ℕ, Bool, true, false, not, List}
use Rattle.std.proofs.Common.{length, map, get_or, Option, Some, None, slice_get, refl}
use Rattle.std.proofs.Common.{sym, ap, ◌∙◌, inl, inr, ◌⊎◌, arith, get_or-append-add}
use Rattle.std.specs.Prelude.{All, Any, IfSome, sum_by, if◌then◌else◌}
use Rattle.std.specs.Prelude.{is_some}
use Rattle.std.proofs.lemmas.Bool.{false≢true, le-leb, lt-leb}
use Rattle.std.proofs.lemmas.List.{get_or_append_left, get_or-map}
use Rattle.std.proofs.lemmas.List.Sorted.{Contains-permutation, IsPermutation-sym}
use Rattle.std.proofs.lemmas.List.Sorted.{sum_by-IsPermutation}
use Rattle.std.proofs.lemmas.Option.{slice_get_within, get_or_from_slice_get}
use Rattle.ground_program.specs.Meaning.{has, counts, IsSetOver}
use Rattle.clause_store.specs.declared.literal.Lit.{Lit}
use Rattle.clause_store.specs.Clause.{variable, truth, HoldsIn}
use Rattle.normal_program.specs.declared.normal.Part.{Part}
use Rattle.normal_program.specs.declared.normal.BodyOf.{BodyOf}
use Rattle.normal_program.specs.declared.normal.Normal.{Normal}
use Rattle.normal_program.specs.Body.{part_weight, weight_of, body_holds}
use Rattle.normal_program.specs.Normal.{body_var, extension}
use Rattle.normal_program.specs.Limit.{IsNormal}
use Rattle.normal_program.specs.Loop.{IsAtomOf, SpeaksOf}
use Rattle.weight_propagator.specs.declared.row.Term.{Term}
use Rattle.weight_propagator.specs.declared.row.Row.{Row}
use Rattle.weight_propagator.specs.declared.side.Side.TheVariants.{Reached}
use Rattle.weight_propagator.specs.Weighed.{FollowsFor}
use Rattle.weight_propagator.specs.Rows.{side_weight, side_sum, MeansRow, is_kept}
use Rattle.weight_propagator.specs.Rows.{weight_if, given_weight, term_of, kept_terms, given_sum}
use Rattle.weight_propagator.specs.Rows.{IsRowOf}
use Rattle.normal_program.proofs.lemmas.Base.TruthLemmas.{makes_true-literal_of}
use Rattle.normal_program.proofs.lemmas.Base.TruthLemmas.{variable-literal_of}
use Rattle.weight_propagator.proofs.BodyLemmas.{IsFit, normal_body}
use Rattle.weight_propagator.proofs.KeptLemmas.{kept_sum, kept_from}

-- ---- extensions

module _ (normal : Normal) (by set : List Bool) (size : length set ≡ normal.atoms + 1) where
  -- the truth of an atom
  pub truth_of_atom : (atom : ℕ) → atom ≤ normal.atoms
      → truth (extension normal by set) atom ≡ has set atom
  truth_of_atom atom low =
      get_or_append_left set (map (body_holds by set) normal.bodies) false atom
      (omega (arith, low, size))

  -- the truth of the variable of a body
  pub truth_of_body : (number : ℕ) (body : BodyOf) → slice_get normal.bodies number ≡ Some body
      → truth (extension normal by set) (body_var normal number) ≡ body_holds by set body
  truth_of_body number body here =
      let within : number < length normal.bodies =
      slice_get_within normal.bodies number body here in
      let at : body_var normal number ≡ length set + number = omega (arith, size) in
      ap (λ k. get_or (extension normal by set) k false) at
      ∙ get_or-append-add set (map (body_holds by set) normal.bodies) number false
      ∙ get_or-map (body_holds by set) normal.bodies number body false within
      ∙ ap (body_holds by set) (get_or_from_slice_get normal.bodies number body body here)

-- the sets that judge: any set by itself, or a part of the one set by that
abbrev pub IsAllowed : Option (List Bool) → List Bool → List Bool → Type 0
IsAllowed None by set = by ≡ set
IsAllowed (Some within) by set = by ≡ within

-- a part adds what it does where it is kept, and else what the set gives
counts_cell : (weight : ℕ) (negated in_by in_set in_within : Bool) → in_by ≡ in_within
    → (if (if negated then not in_by else in_set) then weight else 0)
    ≡ (if not (is_some (if negated then Some (not in_within) else None))
    then (if (if negated then not in_set else in_set) then weight else 0) else 0)
    + weight_if (if negated then Some (not in_within) else None) weight
counts_cell weight true true in_set true same = omega arith
counts_cell weight true true in_set false same = absurd (false≢true (sym same))
counts_cell weight true false in_set true same = absurd (false≢true same)
counts_cell weight true false in_set false same = omega arith
counts_cell weight false in_by true in_within same = omega arith
counts_cell weight false in_by false in_within same = omega arith

module _ (normal : Normal) (inside : Option (List Bool)) (by set : List Bool)
    (size : length set ≡ normal.atoms + 1) (allowed : IsAllowed inside by set) where
  term_true : (part : Part) → part.lit.atom ≤ normal.atoms
      → side_weight Reached (extension normal by set) (term_of part)
      ≡ (if (if part.lit.negated then not (has set part.lit.atom) else has set part.lit.atom)
      then part.weight else 0)
  term_true part low =
      ap (λ b. if b then part.weight else 0)
      (makes_true-literal_of (extension normal by set) part.lit
      ∙ ap (λ b. if part.lit.negated then not b else b)
      (truth_of_atom normal by set size part.lit.atom low))

  weight_cell : (part : Part) → part.lit.atom ≤ normal.atoms
      → part_weight by set part
      ≡ (if is_kept inside part then side_weight Reached (extension normal by set) (term_of part)
      else 0) + given_weight inside part
  weight_cell part low =
      go inside allowed
      ∙ ap (λ n. (if is_kept inside part then n else 0) + given_weight inside part)
      (sym (term_true part low))
    where
      go : (one : Option (List Bool)) → IsAllowed one by set
          → part_weight by set part
          ≡ (if is_kept one part
          then (if (if part.lit.negated then not (has set part.lit.atom) else has set part.lit.atom)
          then part.weight else 0) else 0) + given_weight one part
      go None same =
          ap (λ one. part_weight one set part) same
          ∙ (let e : (if counts set set part.lit then part.weight else 0)
          ≡ (if counts set set part.lit then part.weight else 0) + 0 = omega arith in e)
      go (Some within) same =
          counts_cell part.weight part.lit.negated (has by part.lit.atom) (has set part.lit.atom)
          (has within part.lit.atom) (ap (λ one. has one part.lit.atom) same)

  -- the weight of a body in the extension
  pub weight_is : (parts : List Part) → All (λ part. IsAtomOf normal part.lit.atom) parts
      → sum_by (part_weight by set) parts
      ≡ side_sum Reached (extension normal by set) (kept_terms inside parts)
      + given_sum inside parts
  weight_is parts atoms =
      kept_sum inside (side_weight Reached (extension normal by set)) (part_weight by set) parts
      (λ k d within. weight_cell (get_or parts k d) (atoms k d within).last)

  -- a kept body means what it should
  pub means_row : IsNormal normal → (number : ℕ) (body : BodyOf) (row : Row)
      → IsRowOf inside normal number body row → MeansRow (extension normal by set) row
  means_row is_normal number body row is =
      let fit : IsFit normal body = normal_body normal is_normal number body is.here in
      let weighs : weight_of by set body
      ≡ side_sum Reached (extension normal by set) row.terms + given_sum inside body.parts =
      weight_is body.parts fit.atoms
      ∙ ap (λ n. n + given_sum inside body.parts)
      (sym (sum_by-IsPermutation (side_weight Reached (extension normal by set))
      (kept_terms inside body.parts) row.terms is.kept.terms)) in
      let at : truth (extension normal by set) row.var.0 ≡ body_holds by set body =
      ap (truth (extension normal by set)) is.kept.var
      ∙ truth_of_body normal by set size number body is.here in
      record {
        holds = λ enough.
            at
            ∙ le-leb body.bound (weight_of by set body)
            (omega (arith, enough, weighs, is.kept.bound));
        fails = λ short.
            at
            ∙ lt-leb body.bound (weight_of by set body)
            (omega (arith, short, weighs, is.kept.bound));
      }

-- ---- what follows

module _ (normal : Normal) (inside : Option (List Bool)) (number : ℕ) (body : BodyOf) (row : Row)
    (is : IsRowOf inside normal number body row) where
  -- a clause over a kept body speaks of the body
  pub speaks_of : (clause : List Lit)
      → All
      (λ lit. (variable lit ≡ row.var.0)
      ⊎ Any (λ (term : Term). variable lit ≡ variable term.lit) row.terms) clause
      → SpeaksOf normal clause number body
  speaks_of clause only = record {
    here = is.here;
    weight = is.weight;
    only = λ k d within. by (get_or clause k d) (only k d within);
  }
    where
      by : (lit : Lit)
          → (variable lit ≡ row.var.0)
          ⊎ Any (λ (term : Term). variable lit ≡ variable term.lit) row.terms
          → (variable lit ≡ body_var normal number)
          ⊎ Any (λ (part : Part). variable lit ≡ part.lit.atom) body.parts
      by lit (inl same) = inl (same ∙ is.kept.var)
      by lit (inr (k, term, within, at, same)) =
          let (part, here, keeps, that) =
          kept_from inside body.parts term
          (Contains-permutation row.terms (kept_terms inside body.parts) term
          (IsPermutation-sym (kept_terms inside body.parts) row.terms is.kept.terms)
          (k, within, at)) in
          inr (
            here.0,
            part,
            here.1,
            here.2,
            same ∙ ap (λ (t : Term). variable t.lit) (sym that) ∙ variable-literal_of part.lit,
          )

-- the clause that a kept body gives follows from the body
pub follows_for : (inside : Option (List Bool)) (normal : Normal) → IsNormal normal
    → IfSome inside (IsSetOver normal.atoms) → (number : ℕ) (body : BodyOf) (row : Row)
    → IsRowOf inside normal number body row → (clause : List Lit)
    → All
    (λ lit. (variable lit ≡ row.var.0)
    ⊎ Any (λ (term : Term). variable lit ≡ variable term.lit) row.terms) clause
    → ((values : List Bool) → MeansRow values row → HoldsIn values clause)
    → FollowsFor inside normal clause
follows_for None normal is_normal over number body row is clause only follows = record {
  one = (number, body, speaks_of normal None number body row is clause only);
  holds = λ set over_set. follows (extension normal set set)
      (means_row normal None set set over_set.positions refl is_normal number body row is);
}
follows_for (Some within) normal is_normal over number body row is clause only follows = record {
  one = (number, body, speaks_of normal (Some within) number body row is clause only);
  holds = λ part same inside_it. follows (extension normal within part)
      (means_row normal (Some within) within part (same ∙ over.positions) refl is_normal number body
      row is);
}
