-- A loop clause holds in every answer set: else the set without its atoms would keep the reduct.
use Rattle.std.proofs.Common.{◌≡◌, ◌≤◌, ◌<◌, ◌||◌, ◌++◌, ℕ, Bool, true, false, not, List, Option}
use Rattle.std.proofs.Common.{Some}
use Rattle.std.proofs.Common.{None, IsSomeAnd, slice_get, length, get_or, All, Any, Contains, refl}
use Rattle.std.proofs.Common.{sym, ap, subst, ◌∙◌, arith, if◌then◌else◌, ⊎_elim}
use Rattle.std.proofs.lemmas.Bool.{cases_Bool, both_ways, not-false}
use Rattle.std.proofs.lemmas.List.Elements.{All-contains}
use Rattle.std.proofs.lemmas.Option.{slice_get_within, get_or_from_slice_get}
use Rattle.ground_program.specs.Meaning.{has, counts, HeadHolds, IsPart, IsProperSubset}
use Rattle.ground_program.proofs.MeaningLemmas.{counts-mono}
use Rattle.clause_store.specs.declared.literal.Lit.{Lit}
use Rattle.clause_store.specs.Clause.{truth, makes_true}
use Rattle.clause_store.proofs.LiteralLemmas.{any_or_none}
use Rattle.normal_program.specs.declared.normal.Part.{Part}
use Rattle.normal_program.specs.declared.normal.BodyOf.{BodyOf}
use Rattle.normal_program.specs.declared.normal.NormalRule.{NormalRule}
use Rattle.normal_program.specs.declared.normal.Normal.{Normal}
use Rattle.normal_program.specs.Body.{part_weight, weight_of, BodyHoldsN}
use Rattle.normal_program.specs.Normal.{body_var, extension, RuleBodyHolds, KeepsN, IsAnswerSetN}
use Rattle.normal_program.specs.Clauses.{positive, negative, literal_of, has_lit, has_atom}
use Rattle.normal_program.specs.Clauses.{IsEntailed}
use Rattle.normal_program.specs.Loop.{is_beside, weight_beside, AnswersFor, IsAtomOf}
use Rattle.normal_program.specs.Loop.{IsLoopClauseFor}
use Rattle.normal_program.specs.Range.{IsInRange}
use Rattle.item_list.proofs.ListLemmas.{Any-weaker}
use Rattle.item_list.proofs.ListLemmas.{sum_by-le_each}
use Rattle.normal_program.proofs.lemmas.Base.TruthLemmas.{makes_true-positive, makes_true-negative}
use Rattle.normal_program.proofs.lemmas.Base.CleanLemmas.{has_lit-Contains}
use Rattle.normal_program.proofs.lemmas.Base.RuleLemmas.{Reads, holds-truth}
use Rattle.normal_program.proofs.lemmas.Base.SupportLemmas.{weight-mono, holds-decided, some-more}
use Rattle.normal_program.proofs.lemmas.Base.SupportLemmas.{heads-same}
use Rattle.normal_program.proofs.lemmas.Base.EntailedLemmas.{literal-counts, Reads-extension}
use Rattle.normal_program.proofs.lemmas.Entailed.WithoutLemmas.{without, length-without}
use Rattle.normal_program.proofs.lemmas.Entailed.WithoutLemmas.{has-without, has-without_other}
use Rattle.normal_program.proofs.lemmas.Entailed.WithoutLemmas.{without-part, has_atom-Contains}
use Rattle.normal_program.proofs.lemmas.Entailed.WithoutLemmas.{has_atom-missing}

module _ (normal : Normal) (in_range : IsInRange normal) (values set : List Bool)
    (reads : Reads normal values set) (answer : IsAnswerSetN normal set) (atoms : List ℕ)
    (clause : List Lit) (loop : IsLoopClauseFor normal atoms clause)
    (none : All (λ lit. makes_true values lit ≡ false) clause) where
  within : All (λ atom. atom < length set) atoms
  within k d h = omega (arith, (loop.over k d h).last, answer.over.positions)

  -- the set without the atoms
  rest : List Bool
  rest = without atoms set

  rest_part : IsPart (without atoms set) set
  rest_part = without-part atoms set within

  is_false : (lit : Lit) → Contains clause lit → makes_true values lit ≡ false
  is_false lit here = All-contains (λ one. makes_true values one ≡ false) clause lit none here

  -- an atom that the clause denies is in the set
  denied_in : (atom : ℕ) → atom ≤ normal.atoms → Contains clause (negative atom)
      → has set atom ≡ true
  denied_in atom low here =
      sym (reads.atoms atom low)
      ∙ not-false (truth values atom)
      (sym (makes_true-negative values atom) ∙ is_false (negative atom) here)

  proper : IsProperSubset (without atoms set) set
  proper =
      let some = loop.denies in
      let here : Contains atoms some.1 = (some.0, some.2, some.3) in
      let atom : IsAtomOf normal some.1 =
      All-contains (IsAtomOf normal) atoms some.1 loop.over here in
      record {
        positions = length-without atoms set;
        inside = rest_part;
        other = λ same.
            both_ways (has set some.1)
            (sym (ap (λ s. has s some.1) same) ∙ has-without atoms set some.1 within here)
            (denied_in some.1 atom.last some.4);
      }

  -- a literal that counts in the rest is beside the clause and the atoms
  counted_beside : (part : Part) → IsAtomOf normal part.lit.atom
      → counts set (without atoms set) part.lit ≡ true → is_beside atoms clause part ≡ true
  counted_beside part atom counted =
      ap (λ b. not (b || (if part.lit.negated then false else has_atom atoms part.lit.atom)))
      apart ∙ ap (λ b. not (false || b)) (outside part.lit.negated counted)
    where
      apart : has_lit clause (literal_of part.lit) ≡ false
      apart =
          ⊎_elim
          (λ found. absurd
          (both_ways (makes_true values (literal_of part.lit))
          (is_false (literal_of part.lit)
          (has_lit-Contains values clause (literal_of part.lit) found))
          (literal-counts normal values set reads.atoms part atom
          ∙ counts-mono set set (without atoms set) set part.lit (λ a h. h) rest_part counted)))
          (λ missing. missing)
          (cases_Bool (has_lit clause (literal_of part.lit)))

      outside : (b : Bool)
          → (if b then not (has set part.lit.atom)
          else has (without atoms set) part.lit.atom) ≡ true
          → (if b then false else has_atom atoms part.lit.atom) ≡ false
      outside true counts_so = refl
      outside false counts_so =
          ⊎_elim
          (λ found. absurd
          (both_ways (has (without atoms set) part.lit.atom)
          (has-without atoms set part.lit.atom within
          (has_atom-Contains atoms part.lit.atom found)) counts_so))
          (λ missing. missing)
          (cases_Bool (has_atom atoms part.lit.atom))

  -- so a body that can't reach its bound beside them doesn't hold in the rest
  too_light : (number : ℕ) (at : Option BodyOf) → slice_get normal.bodies number ≡ at
      → IsSomeAnd at (λ body. weight_beside atoms clause body < body.bound)
      → IsSomeAnd at (BodyHoldsN set (without atoms set)) → ⊥
  too_light number None here light holds = light
  too_light number (Some body) here light holds =
      let parts : All (λ part. IsAtomOf normal part.lit.atom) body.parts =
      subst (λ (one : BodyOf). All (λ part. IsAtomOf normal part.lit.atom) one.parts)
      (get_or_from_slice_get normal.bodies number body body here)
      (in_range.parts number body (slice_get_within normal.bodies number body here)) in
      let less : weight_of set (without atoms set) body ≤ weight_beside atoms clause body =
      sum_by-le_each (part_weight set (without atoms set))
      (λ (part : Part). if is_beside atoms clause part then part.weight else 0) body.parts
      (λ k d h. weight-mono (counts set (without atoms set) (get_or body.parts k d).lit)
      (is_beside atoms clause (get_or body.parts k d)) (get_or body.parts k d).weight
      (counted_beside (get_or body.parts k d) (parts k d h))) in
      omega (arith, less, light, holds)

  module _ (rule : NormalRule) (here : Contains normal.rules rule)
      (fails : KeepsN normal.bodies set (without atoms set) rule → ⊥) where
    body_holds_in_rest : RuleBodyHolds normal.bodies set (without atoms set) rule
    body_holds_in_rest =
        ⊎_elim (λ holds. holds)
        (λ not_holds. absurd (fails (λ holds. absurd (not_holds holds))))
        (holds-decided set (without atoms set) (slice_get normal.bodies rule.body))

    body_holds_in_set : RuleBodyHolds normal.bodies set set rule
    body_holds_in_set =
        some-more set (without atoms set) set (slice_get normal.bodies rule.body) rest_part
        body_holds_in_rest

    -- some head is one of the atoms: else the heads would hold in the rest as in the set
    some_head : Any (Contains atoms) rule.heads
    some_head =
        ⊎_elim
        (λ some. Any-weaker (λ head. has_atom atoms head ≡ true) (Contains atoms)
        (λ head found. has_atom-Contains atoms head found) rule.heads some)
        (λ no_head. absurd
        (fails
        (λ holds. heads-same rule.kind set (without atoms set) rule.heads
        (λ k d h. has-without_other atoms set (get_or rule.heads k d)
        (has_atom-missing atoms (get_or rule.heads k d) (no_head k d h)))
        (All-contains (KeepsN normal.bodies set set) normal.rules rule answer.keeps here
        body_holds_in_set))))
        (any_or_none (has_atom atoms) rule.heads)

    never : ⊥
    never =
        ⊎_elim
        (λ has_body. both_ways (makes_true values (positive (body_var normal rule.body)))
        (is_false (positive (body_var normal rule.body)) has_body)
        (makes_true-positive values (body_var normal rule.body)
        ∙ holds-truth normal values set reads rule body_holds_in_set))
        (λ either. ⊎_elim
        (λ light. too_light rule.body (slice_get normal.bodies rule.body) refl light
        body_holds_in_rest)
        (λ other.
        let some = other.1 in
        let atom : IsAtomOf normal some.1 =
        All-contains (IsAtomOf normal) rule.heads some.1
        (All-contains (λ (one : NormalRule). All (IsAtomOf normal) one.heads) normal.rules rule
        in_range.heads here) (some.0, some.2, some.3) in
        fails
        (λ holds. subst (λ kind. HeadHolds kind set (without atoms set) rule.heads) (sym other.0) (
          some.0,
          some.1,
          some.2,
          some.3,
          has-without_other atoms set some.1 some.4.0 ∙ denied_in some.1 atom.last some.4.1,
        )))
        either)
        (All-contains
        (λ (one : NormalRule). Any (Contains atoms) one.heads → AnswersFor normal atoms clause one)
        normal.rules rule loop.rules here some_head)

  pub loop_clause-not_false : ⊥
  loop_clause-not_false =
      let fails = answer.least (without atoms set) proper in
      never fails.1 (fails.0, fails.2, fails.3) fails.4

-- a loop clause is entailed
pub loop_clause-entailed : (normal : Normal) → IsInRange normal → (atoms : List ℕ)
    (clause : List Lit) (disjunctions : List (List Lit)) → IsLoopClauseFor normal atoms clause
    → IsEntailed normal disjunctions clause
loop_clause-entailed normal in_range atoms clause disjunctions loop set chosen answer are_chosen =
    let values = extension normal set set ++ chosen in
    ⊎_elim (λ holds. holds)
    (λ none. absurd
    (loop_clause-not_false normal in_range values set
    (Reads-extension normal set chosen answer.over)
    answer atoms clause loop none))
    (any_or_none (makes_true values) clause)
