-- Each atom of an answer set has a rule that supports it: else the set without the atom would keep
-- the reduct too.
use Rattle.std.proofs.Common.{◌≡◌, ◌≢◌, ◌≤◌, ◌<◌, ◌⊎◌, ℕ, Bool, true, false, not, eqb, List, Option}
use Rattle.std.proofs.Common.{Some, None, IsSomeAnd, slice_get, length, length-set, get_or}
use Rattle.std.proofs.Common.{get_or-set_same, get_or-set_other, slice_set, map, filter, All}
use Rattle.std.proofs.Common.{Contains, refl, sym, ap, subst, ◌∙◌, arith, if◌then◌else◌, inl, inr}
use Rattle.std.proofs.Common.{⊎_elim}
use Rattle.std.proofs.lemmas.Bool.{eq-eqb, cases_eq, cases_lt, cases_Bool, both_ways}
use Rattle.std.proofs.lemmas.List.Elements.{All-contains}
use Rattle.std.proofs.lemmas.List.Folds.{list_any_at}
use Rattle.std.proofs.lemmas.List.Sums.{sum_by-le-sum_by}
use Rattle.ground_program.specs.declared.program.Kind.{Kind}
use Rattle.ground_program.specs.declared.program.Kind.TheVariants.{Basic, Constraint, Choice}
use Rattle.ground_program.specs.declared.program.Kind.TheVariants.{Weight, Disjunctive}
use Rattle.ground_program.specs.Meaning.{has, IsIn, counts, HeadHolds, IsPart, IsProperSubset}
use Rattle.ground_program.proofs.MeaningLemmas.{counts-mono}
use Rattle.clause_store.specs.Clause.{HoldsIn}
use Rattle.clause_store.proofs.LiteralLemmas.{has_kept, has_mapped}
use Rattle.normal_program.specs.declared.normal.BodyOf.{BodyOf}
use Rattle.normal_program.specs.declared.normal.NormalRule.{NormalRule}
use Rattle.normal_program.specs.declared.normal.Normal.{Normal}
use Rattle.normal_program.specs.Body.{part_weight, weight_of, BodyHoldsN}
use Rattle.normal_program.specs.Normal.{body_var, RuleBodyHolds, KeepsN, IsAnswerSetN}
use Rattle.normal_program.specs.Clauses.{positive, negative, has_atom, support_clause}
use Rattle.normal_program.specs.Loop.{IsAtomOf}
use Rattle.normal_program.proofs.lemmas.Base.TruthLemmas.{makes_true-positive, makes_true-negative}
use Rattle.normal_program.proofs.lemmas.Base.TruthLemmas.{HoldsIn-here}
use Rattle.normal_program.proofs.lemmas.Base.TruthLemmas.{HoldsIn-there, HoldsIn-by}
use Rattle.normal_program.proofs.lemmas.Base.RuleLemmas.{Reads, holds-truth}

-- a weight counts no less where its test is true as well
pub weight-mono : (small great : Bool) (n : ℕ) → (small ≡ true → great ≡ true)
    → (if small then n else 0) ≤ (if great then n else 0)
weight-mono true true n more = omega arith
weight-mono true false n more = let e : false ≡ true = more refl in cc
weight-mono false great n more = omega arith

-- a body that holds holds with more atoms
holds-more : (by part whole : List Bool) (body : BodyOf) → IsPart part whole
    → BodyHoldsN by part body → BodyHoldsN by whole body
holds-more by part whole body more holds =
    let weighs = sum_by-le-sum_by (part_weight by part) (part_weight by whole) body.parts
    (λ each. weight-mono (counts by part each.lit) (counts by whole each.lit) each.weight
    (counts-mono by by part whole each.lit (λ atom here. here) more)) in
    omega (arith, holds, weighs)

-- whether a body holds is decided
pub holds-decided : (by set : List Bool) (o : Option BodyOf)
    → IsSomeAnd o (BodyHoldsN by set) ⊎ (IsSomeAnd o (BodyHoldsN by set) → ⊥)
holds-decided by set None = inr (λ fact. fact)
holds-decided by set (Some body) =
    ⊎_elim (λ low. inr (λ holds. omega (arith, low, holds))) (λ high. inl high)
    (cases_lt (weight_of by set body) body.bound)

-- so does that of a rule
pub some-more : (by part whole : List Bool) (o : Option BodyOf) → IsPart part whole
    → IsSomeAnd o (BodyHoldsN by part) → IsSomeAnd o (BodyHoldsN by whole)
some-more by part whole None more holds = holds
some-more by part whole (Some body) more holds = holds-more by part whole body more holds

-- heads hold in a set with the same truth values on them
pub heads-same : (kind : Kind) (set part : List Bool) (heads : List ℕ)
    → All (λ head. has part head ≡ has set head) heads → HeadHolds kind set set heads
    → HeadHolds kind set part heads
heads-same Basic set part heads same holds = λ k d h. same k d h ∙ holds k d h
heads-same Constraint set part heads same holds = λ k d h. same k d h ∙ holds k d h
heads-same Choice set part heads same holds = λ k d h inside. same k d h ∙ inside
heads-same Weight set part heads same holds = λ k d h. same k d h ∙ holds k d h
heads-same Disjunctive set part heads same some = (
  some.0,
  some.1,
  some.2,
  some.3,
  All-contains (λ head. has part head ≡ has set head) heads some.1 same
      (some.0, some.2, some.3) ∙ some.4,
)

-- no head is an atom that a search doesn't find
pub not-found : (heads : List ℕ) (atom : ℕ) → has_atom heads atom ≡ false
    → All (λ head. head ≢ atom) heads
not-found heads atom none k d h same =
    both_ways (has_atom heads atom) none
    (list_any_at (eqb atom) heads k d h (eq-eqb atom (get_or heads k d) (sym same)))

module _ (normal : Normal) (set : List Bool) (answer : IsAnswerSetN normal set) (atom : ℕ)
    (is_atom : IsAtomOf normal atom) (inside : IsIn set atom) where
  within : atom < length set
  within = omega (arith, answer.over.positions, is_atom.last)

  others_same : (other : ℕ) → other ≢ atom → has (slice_set set atom false) other ≡ has set other
  others_same other ne = get_or-set_other set atom other false false ne

  atom_out : has (slice_set set atom false) atom ≡ false
  atom_out = get_or-set_same set atom false false within

  part_of_set : IsPart (slice_set set atom false) set
  part_of_set other here =
      ⊎_elim (λ same. subst (IsIn set) (sym same) inside) (λ ne. sym (others_same other ne) ∙ here)
      (cases_eq other atom)

  proper : IsProperSubset (slice_set set atom false) set
  proper = record {
    positions = length-set set atom false;
    inside = part_of_set;
    other = λ same. both_ways (has set atom) (sym (ap (λ s. has s atom) same) ∙ atom_out) inside;
  }

  -- a rule for the atom whose body holds
  pub supported : (rule : NormalRule) × Contains normal.rules rule
      × (has_atom rule.heads atom ≡ true) × RuleBodyHolds normal.bodies set set rule
  supported =
      let fails = answer.least (slice_set set atom false) proper in
      let rule = fails.1 in
      let here : Contains normal.rules rule = (fails.0, fails.2, fails.3) in
      let part = slice_set set atom false in
      let holds : RuleBodyHolds normal.bodies set part rule =
      ⊎_elim (λ holds. holds) (λ not_holds. absurd (fails.4 (λ holds. absurd (not_holds holds))))
      (holds-decided set part (slice_get normal.bodies rule.body)) in
      let whole : RuleBodyHolds normal.bodies set set rule =
      some-more set part set (slice_get normal.bodies rule.body) part_of_set holds in
      let kept : HeadHolds rule.kind set set rule.heads =
      All-contains (KeepsN normal.bodies set set) normal.rules rule answer.keeps here whole in
      let for_atom : has_atom rule.heads atom ≡ true =
      ⊎_elim (λ found. found)
      (λ none. absurd
      (fails.4
      (λ _. heads-same rule.kind set part rule.heads
      (λ k d h. others_same (get_or rule.heads k d)
      (not-found rule.heads atom none k d h)) kept)))
      (cases_Bool (has_atom rule.heads atom)) in
      (rule, here, for_atom, whole)

-- the support clause of an atom holds in an answer set
pub support_clause-holds : (normal : Normal) (values set : List Bool) → Reads normal values set
    → IsAnswerSetN normal set → (atom : ℕ) → IsAtomOf normal atom
    → HoldsIn values (support_clause normal atom)
support_clause-holds normal values set reads answer atom is_atom =
    ⊎_elim
    (λ inside.
    let found = supported normal set answer atom is_atom inside in
    let bodies =
    map (λ (rule : NormalRule). positive (body_var normal rule.body))
    (filter (λ (rule : NormalRule). has_atom rule.heads atom) normal.rules) in
    HoldsIn-there values (negative atom) bodies
    (HoldsIn-by values bodies (positive (body_var normal found.0.body))
    (has_mapped (λ (rule : NormalRule). positive (body_var normal rule.body))
    (filter (λ (rule : NormalRule). has_atom rule.heads atom) normal.rules) found.0
    (has_kept (λ (rule : NormalRule). has_atom rule.heads atom) normal.rules found.0 found.1
    found.2))
    (makes_true-positive values (body_var normal found.0.body)
    ∙ holds-truth normal values set reads found.0 found.3)))
    (λ outside. HoldsIn-here values (negative atom)
    (map (λ (rule : NormalRule). positive (body_var normal rule.body))
    (filter (λ (rule : NormalRule). has_atom rule.heads atom) normal.rules))
    (makes_true-negative values atom ∙ ap not (reads.atoms atom is_atom.last ∙ outside)))
    (cases_Bool (has set atom))
