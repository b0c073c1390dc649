-- What the clauses of a conjunctive body say.
use Rattle.std.proofs.Common.{◌≡◌, ◌≤◌, ℕ, Bool, true, false, not, eqb, List, [], ◌∷◌, get_or, map}
use Rattle.std.proofs.Common.{All, Contains, sum_by, sym, ap, subst, ◌∙◌, arith, if◌then◌else◌}
use Rattle.std.proofs.Common.{⊎_elim}
use Rattle.std.proofs.lemmas.Bool.{eqb-true, eqb-false, le-leb, leb-true, and_parts, cases_Bool}
use Rattle.std.proofs.lemmas.Bool.{both_ways, not-true, not-false}
use Rattle.std.proofs.lemmas.List.Elements.{All-nil, All-cons, All-contains, Contains-append_cases}
use Rattle.std.proofs.lemmas.List.Elements.{Contains-append_left, Contains-append_right}
use Rattle.std.proofs.lemmas.List.Elements.{Contains-get_or}
use Rattle.std.proofs.lemmas.List.Sums.{sum_by-cons, sum_by-le-sum_by, AllPass-from_list_all}
use Rattle.ground_program.specs.Meaning.{counts}
use Rattle.clause_store.specs.declared.literal.Lit.{Lit}
use Rattle.clause_store.specs.Clause.{negation, truth, makes_true, HoldsIn}
use Rattle.clause_store.proofs.LiteralLemmas.{has_first, first_or_later, has_mapped, mapped_from}
use Rattle.clause_store.proofs.LiteralLemmas.{any_or_none}
use Rattle.normal_program.specs.declared.normal.Part.{Part}
use Rattle.normal_program.specs.declared.normal.BodyOf.{BodyOf}
use Rattle.normal_program.specs.Body.{is_conjunctive, full_weight, part_weight, weight_of}
use Rattle.normal_program.specs.Body.{body_holds}
use Rattle.normal_program.specs.Clauses.{positive, negative, all_clauses}
use Rattle.item_list.proofs.ListLemmas.{sum_by-agree}
use Rattle.normal_program.proofs.lemmas.Base.TruthLemmas.{makes_true-positive, makes_true-negative}
use Rattle.normal_program.proofs.lemmas.Base.TruthLemmas.{makes_true-negation, HoldsIn-here}
use Rattle.normal_program.proofs.lemmas.Base.TruthLemmas.{HoldsIn-there}
use Rattle.normal_program.proofs.lemmas.Base.TruthLemmas.{HoldsIn-cases, HoldsIn-by}

-- where a sum reaches one that is nowhere less, they agree everywhere
same_terms : {X : Type 0} (f g : X → ℕ) → ((x : X) → f x ≤ g x) → (xs : List X)
    → sum_by g xs ≤ sum_by f xs → All (λ x. f x ≡ g x) xs
same_terms f g less [] reach = All-nil (λ x. f x ≡ g x)
same_terms f g less (x ∷ xs) reach =
    let fs = sum_by-cons f x xs in
    let gs = sum_by-cons g x xs in
    let rest : sum_by f xs ≤ sum_by g xs = sum_by-le-sum_by f g xs less in
    let first : f x ≤ g x = less x in
    All-cons (λ y. f y ≡ g y) x xs (omega (arith, fs, gs, rest, first, reach))
    (same_terms f g less xs (omega (arith, fs, gs, rest, first, reach)))

choice_le : (b : Bool) (n : ℕ) → (if b then n else 0) ≤ n
choice_le true n = omega arith
choice_le false n = omega arith

module _ (by set : List Bool) (body : BodyOf) (conjunctive : is_conjunctive body ≡ true) where
  whole : body.bound ≡ full_weight body
  whole = eqb-true body.bound (full_weight body) (and_parts _ _ conjunctive).0

  -- where a conjunctive body holds, all its literals count
  pub holds-all : body_holds by set body ≡ true
      → All (λ part. counts by set part.lit ≡ true) body.parts
  holds-all holds k d h =
      let reach : body.bound ≤ weight_of by set body =
      leb-true body.bound (weight_of by set body) holds in
      let same =
      same_terms (part_weight by set) (λ (part : Part). part.weight)
      (λ part. choice_le (counts by set part.lit) part.weight) body.parts
      (omega (arith, reach, whole)) k d h in
      let some : eqb (get_or body.parts k d).weight 0 ≡ false =
      not-true _
      (AllPass-from_list_all (λ (part : Part). not (eqb part.weight 0)) body.parts
      (and_parts _ _ conjunctive).1 k d h) in
      ⊎_elim (λ counted. counted)
      (λ missed. absurd
      (eqb-false (get_or body.parts k d).weight 0 some
      (sym same ∙ ap (λ b. if b then (get_or body.parts k d).weight else 0) missed)))
      (cases_Bool (counts by set (get_or body.parts k d).lit))

  -- where all its literals count, it holds
  pub all-holds : All (λ part. counts by set part.lit ≡ true) body.parts
      → body_holds by set body ≡ true
  all-holds all =
      let same : weight_of by set body ≡ full_weight body =
      sum_by-agree (part_weight by set) (λ (part : Part). part.weight) body.parts
      (λ k d h. ap (λ b. if b then (get_or body.parts k d).weight else 0) (all k d h)) in
      le-leb body.bound (weight_of by set body) (omega (arith, same, whole))

module _ (values : List Bool) (var : ℕ) (lits : List Lit) where
  -- the clauses hold where the variable is true exactly where all literals are
  pub all_clauses-hold : (truth values var ≡ true → All (λ lit. makes_true values lit ≡ true) lits)
      → (All (λ lit. makes_true values lit ≡ true) lits → truth values var ≡ true)
      → (clause : List Lit) → Contains (all_clauses var lits) clause → HoldsIn values clause
  all_clauses-hold forth back clause here =
      ⊎_elim
      (λ first.
      let found = mapped_from (λ lit. negative var ∷ lit ∷ []) lits clause first in
      subst (HoldsIn values) found.2
      (⊎_elim
      (λ on. HoldsIn-there values (negative var) (found.0 ∷ [])
      (HoldsIn-here values found.0 []
      (All-contains (λ lit. makes_true values lit ≡ true) lits found.0 (forth on) found.1)))
      (λ off. HoldsIn-here values (negative var) (found.0 ∷ [])
      (makes_true-negative values var ∙ ap not off))
      (cases_Bool (truth values var))))
      (λ last.
      let same : positive var ∷ map negation lits ≡ clause =
      ⊎_elim (λ e. e) (λ none. absurd (omega (arith, none.1)))
      (first_or_later (positive var ∷ map negation lits) clause [] last) in
      subst (HoldsIn values) same
      (⊎_elim
      (λ some. HoldsIn-there values (positive var) (map negation lits)
      (HoldsIn-by values (map negation lits) (negation some.1)
      (has_mapped negation lits some.1 (some.0, some.2, some.3))
      (makes_true-negation values some.1 ∙ some.4)))
      (λ none. HoldsIn-here values (positive var) (map negation lits)
      (makes_true-positive values var
      ∙ back (λ k d h. not-false (makes_true values (get_or lits k d)) (none k d h))))
      (any_or_none (λ lit. not (makes_true values lit)) lits)))
      (Contains-append_cases (map (λ lit. negative var ∷ lit ∷ []) lits)
      ((positive var ∷ map negation lits) ∷ []) clause here)

  module _
      (hold : (clause : List Lit) → Contains (all_clauses var lits) clause
      → HoldsIn values clause) where
    -- where the clauses hold, a true variable makes all literals true
    pub all_clauses-forth : truth values var ≡ true → All (λ lit. makes_true values lit ≡ true) lits
    all_clauses-forth on k d h =
        let lit = get_or lits k d in
        let holds =
        hold (negative var ∷ lit ∷ [])
        (Contains-append_left (map (λ one. negative var ∷ one ∷ []) lits)
        ((positive var ∷ map negation lits) ∷ []) (negative var ∷ lit ∷ [])
        (has_mapped (λ one. negative var ∷ one ∷ []) lits lit (Contains-get_or lits k d h))) in
        ⊎_elim
        (λ off. absurd
        (both_ways (makes_true values (negative var))
        (makes_true-negative values var ∙ ap not on) off))
        (λ rest. ⊎_elim (λ true_one. true_one) (λ none. absurd (omega (arith, none.2)))
        (HoldsIn-cases values lit [] rest))
        (HoldsIn-cases values (negative var) (lit ∷ []) holds)

    -- and where all literals are true, so is the variable
    pub all_clauses-back : All (λ lit. makes_true values lit ≡ true) lits → truth values var ≡ true
    all_clauses-back all =
        let holds =
        hold (positive var ∷ map negation lits)
        (Contains-append_right (map (λ one. negative var ∷ one ∷ []) lits)
        ((positive var ∷ map negation lits) ∷ []) (positive var ∷ map negation lits)
        (has_first (positive var ∷ map negation lits) [])) in
        ⊎_elim (λ on. sym (makes_true-positive values var) ∙ on)
        (λ rest.
        let found = mapped_from negation lits rest.1 (rest.0, rest.2, rest.3) in
        let on : makes_true values found.0 ≡ true =
        All-contains (λ lit. makes_true values lit ≡ true) lits found.0 all found.1 in
        absurd
        (both_ways (makes_true values rest.1)
        (ap (makes_true values) (sym found.2) ∙ makes_true-negation values found.0
        ∙ ap not on) rest.4))
        (HoldsIn-cases values (positive var) (map negation lits) holds)
