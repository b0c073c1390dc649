-- A minimal model is an answer set. Without disjunctive rules a founded one is minimal: a part of
-- it that keeps the reduct has each founded atom.
use Rattle.std.proofs.Common.{◌≡◌, ◌≢◌, ◌≤◌, ◌⊎◌, ℕ, Bool, true, false, not, cond, List, []}
use Rattle.std.proofs.Common.{◌∷◌, get_or, length, Some, None, Option, slice_get, refl, sym, ap}
use Rattle.std.proofs.Common.{◌∙◌}
use Rattle.std.proofs.Common.{subst, arith, ⊎_elim, inl, inr, suc}
use Rattle.std.specs.Prelude.{All, Any, sum_by, if◌then◌else◌, IsSomeAnd}
use Rattle.std.proofs.lemmas.Bool.{cases_Bool, cases_lt, cases_eq, both_ways, not-true, not-false}
use Rattle.std.proofs.lemmas.List.{get_or_past}
use Rattle.std.proofs.lemmas.List.Elements.{All-nil, All-cons, All-contains}
use Rattle.std.proofs.lemmas.Option.{slice_get-get_or, get_or_from_slice_get}
use Rattle.ground_program.specs.declared.program.Kind.{Kind}
use Rattle.ground_program.specs.declared.program.Kind.TheVariants.{Basic, Constraint, Choice}
use Rattle.ground_program.specs.declared.program.Kind.TheVariants.{Weight, Disjunctive}
use Rattle.ground_program.specs.Meaning.{has, IsIn, IsPart, HeadHolds, IsProperSubset}
use Rattle.ground_program.specs.Meaning.{IsSetOver}
use Rattle.ground_program.proofs.SetLemmas.{same_sets}
use Rattle.ground_program.proofs.MeaningLemmas.{IsDecided, HeadHolds-decided}
use Rattle.clause_store.specs.declared.literal.Value.{Value}
use Rattle.clause_store.specs.declared.literal.Value.TheVariants.{Yes, No}
use Rattle.clause_store.specs.Trail.{Assigned, value_of, values_of}
use Rattle.clause_store.specs.Clause.{Meets}
use Rattle.clause_store.specs.Standing.{IsFalse}
use Rattle.clause_store.proofs.LiteralLemmas.{any_or_none, has_kept, kept_passes}
use Rattle.normal_program.specs.declared.normal.Part.{Part}
use Rattle.normal_program.specs.declared.normal.BodyOf.{BodyOf}
use Rattle.normal_program.specs.declared.normal.NormalRule.{NormalRule}
use Rattle.normal_program.specs.declared.normal.Normal.{Normal}
use Rattle.normal_program.specs.Body.{part_weight, weight_of, BodyHoldsN}
use Rattle.normal_program.specs.Normal.{RuleBodyHolds, KeepsN, KeepsAllN, SomeFailsN}
use Rattle.normal_program.specs.Clauses.{positive, negative, literal_of, atoms_of_normal}
use Rattle.normal_program.specs.Clauses.{base_clauses}
use Rattle.normal_program.specs.Loop.{IsAtomOf}
use Rattle.normal_program.specs.Limit.{IsNormal}
use Rattle.normal_program.specs.Models.{set_of, IsModelOf}
use Rattle.normal_program.specs.Spent.{atoms_in}
use Rattle.item_list.proofs.ListLemmas.{sum_by-agree}
use Rattle.completion.proofs.PartLemmas.{atom_there}
use Rattle.weight_propagator.specs.Gives.{IsQuiet}
use Rattle.unfounded_sets.specs.Founding.{is_no, counts_with, founding_weight, HasHeads}
use Rattle.unfounded_sets.specs.Founding.{IsClosed, KeepsAllOn, LacksOne}
use Rattle.unfounded_sets.specs.Found.{AreFounded}
use Rattle.minimality_test.specs.Minimality.{IsMinimal}
use Rattle.coherence_test.specs.AnswerSets.{HasNoDisjunction}
use Rattle.kept_minimality.specs.Total.{IsTotalOver}
use Rattle.coherence_test.specs.Laws.{FoundedModelsAreAnswerSets}
use Rattle.coherence_test.specs.Laws.{MinimalModelsAreAnswerSets}
use Rattle.kept_minimality.proofs.QuietLemmas.{in_range, atom_value, part_value, atoms_of_body}
use Rattle.kept_minimality.proofs.ModelLemmas.{total_model}

-- ---- sets and decisions

-- a fact that is decided of each item holds of each or fails at some
each_or_some : {X : Type 0} (P : X → Type 0) → ((x : X) → IsDecided (P x)) → (xs : List X)
    → All P xs ⊎ Any (λ x. ¬ P x) xs
each_or_some P test [] = inl (All-nil P)
each_or_some P test (x ∷ xs) =
    ⊎_elim
    (λ (here : P x). ⊎_elim
    (λ (rest : All P xs). inl (All-cons P x xs here rest))
    (λ (rest : Any (λ y. ¬ P y) xs). inr
    (suc rest.0, rest.1, omega (arith, rest.2), rest.3, rest.4))
    (each_or_some P test xs))
    (λ (fails : ¬ P x). inr (0, x, omega arith, refl, fails))
    (test x)

body_decided : (by set : List Bool) (o : Option BodyOf)
    → IsDecided (IsSomeAnd o (BodyHoldsN by set))
body_decided by set None = inr (λ none. none)
body_decided by set (Some body) =
    ⊎_elim (λ low. inr (λ holds. omega (arith, low, holds))) (λ enough. inl enough)
    (cases_lt (weight_of by set body) body.bound)

keeps_decided : (bodies : List BodyOf) (by set : List Bool) (rule : NormalRule)
    → IsDecided (KeepsN bodies by set rule)
keeps_decided bodies by set rule =
    ⊎_elim
    (λ (holds : RuleBodyHolds bodies by set rule). ⊎_elim
    (λ (head : HeadHolds rule.kind by set rule.heads). inl (λ _. head))
    (λ (fails : ¬ HeadHolds rule.kind by set rule.heads). inr (λ keeps. fails (keeps holds)))
    (HeadHolds-decided rule.kind by set rule.heads))
    (λ (fails : ¬ RuleBodyHolds bodies by set rule). inl (λ holds. absurd (fails holds)))
    (body_decided by set (slice_get bodies rule.body))

-- ---- founding on a total trail

-- a literal counts for founding as it does in the reduct
count_cell : (negated here there : Bool) (value : Value)
    → value ≡ cond (if negated then not here else here) Yes No
    → (if negated then not (is_no value) else there) ≡ (if negated then not here else there)
count_cell true true there value is = ap (λ v. not (is_no v)) is
count_cell true false there value is = ap (λ v. not (is_no v)) is
count_cell false here there value is = refl

in_isnt : (b : Bool) → b ≡ true → cond b Yes No ≢ No
in_isnt true is same = cc
in_isnt false is same = cc

module _ (normal : Normal) (trail : Assigned) (is : IsNormal normal)
    (total : IsTotalOver normal trail) where
  abbrev set : List Bool
  set = set_of normal (values_of trail)

  weights_same : (part : List Bool) (parts : List Part)
      → All (λ (it : Part). IsAtomOf normal it.lit.atom) parts
      → founding_weight trail.steps part parts ≡ sum_by (part_weight set part) parts
  weights_same part parts atoms =
      sum_by-agree
      (λ (it : Part). if counts_with trail.steps part it.lit then it.weight else 0)
      (part_weight set part) parts
      (λ k d within. let it = get_or parts k d in
      ap (λ b. cond b it.weight 0)
      (count_cell it.lit.negated (has set it.lit.atom) (has part it.lit.atom)
      (value_of trail.steps (literal_of it.lit))
      (part_value normal trail is total it.lit (atoms k d within))))

  -- a head that isn't false is in the set
  not_false_in : (atom : ℕ) → IsAtomOf normal atom → ¬ IsFalse trail.steps (positive atom)
      → IsIn set atom
  not_false_in atom here possible =
      ⊎_elim (λ inside. inside)
      (λ outside. absurd
      (possible
      (atom_value normal trail is total atom here ∙ ap (λ b. cond b Yes No) outside)))
      (cases_Bool (has set atom))

  in_not_false : (atom : ℕ) → IsAtomOf normal atom → IsIn set atom
      → ¬ IsFalse trail.steps (positive atom)
  in_not_false atom here inside denied =
      in_isnt (has set atom) inside (sym (atom_value normal trail is total atom here) ∙ denied)

  -- the negation of an atom of the set is false
  denied : (atom : ℕ) → IsAtomOf normal atom → IsIn set atom
      → IsFalse trail.steps (negative atom)
  denied atom here inside =
      part_value normal trail is total (record { atom = atom; negated = true }) here
      ∙ ap (λ b. cond (not b) Yes No) inside

  -- heads that hold in the reduct: all that aren't false or, of a disjunctive rule, a true one
  heads_kept : (kind : Kind) (part : List Bool) (heads : List ℕ) → IsPart part set
      → All (IsAtomOf normal) heads → HeadHolds kind set part heads
      → HasHeads trail.steps part heads
      ⊎ ((kind ≡ Disjunctive)
      × Any (λ head. IsIn part head × IsFalse trail.steps (negative head)) heads)
  heads_kept Basic part heads inside atoms holds = inl (λ k d within possible. holds k d within)
  heads_kept Constraint part heads inside atoms holds =
      inl (λ k d within possible. holds k d within)
  heads_kept Choice part heads inside atoms holds =
      inl
      (λ k d within possible.
      holds k d within (not_false_in (get_or heads k d) (atoms k d within) possible))
  heads_kept Weight part heads inside atoms holds = inl (λ k d within possible. holds k d within)
  heads_kept Disjunctive part heads inside atoms (k, head, within, at, here) =
      let is_atom = subst (IsAtomOf normal) at (atoms k head within) in
      inr (refl, (k, head, within, at, (here, denied head is_atom (inside head here))))

  -- a part that keeps the reduct keeps the rules on the trail
  pub keeps_on : (part : List Bool) → IsPart part set → KeepsAllN normal set part
      → KeepsAllOn normal trail.steps part
  keeps_on part inside keeps k rule within reached =
      let it = get_or normal.rules k rule in
      let number = (in_range normal trail is total).numbers k rule within in
      let none : BodyOf = record { bound = 0; parts = [] } in
      let body = get_or normal.bodies it.body none in
      let there : slice_get normal.bodies it.body ≡ Some body =
      slice_get-get_or normal.bodies it.body none number in
      let enough : body.bound ≤ founding_weight trail.steps part body.parts =
      subst
      (λ o. IsSomeAnd o
      (λ (one : BodyOf). one.bound ≤ founding_weight trail.steps part one.parts)) there
      reached.enough in
      let holds : RuleBodyHolds normal.bodies set part it =
      subst (λ o. IsSomeAnd o (BodyHoldsN set part)) (sym there)
      (omega (
        arith,
        enough,
        weights_same part body.parts (atoms_of_body normal trail is total it.body body there),
      )) in
      heads_kept it.kind part it.heads inside
      ((in_range normal trail is total).heads k rule within) (keeps k rule within holds)

  -- without disjunctive rules it gains nothing by founding
  kept_closed : HasNoDisjunction normal → (part : List Bool) → IsPart part set
      → KeepsAllN normal set part → IsClosed normal trail.steps part
  kept_closed plain part inside keeps k rule within reached =
      ⊎_elim (λ heads. heads) (λ other. absurd (plain k rule within other.0))
      (keeps_on part inside keeps k rule within reached)

  -- an atom in a set over the atoms
  is_atom : IsSetOver normal.atoms set → (atom : ℕ) → IsIn set atom → IsAtomOf normal atom
  is_atom over atom inside = record {
    first =
        ⊎_elim
        (λ zero. absurd
        (both_ways (has set atom)
        (ap (has set) zero ∙ get_or_from_slice_get set 0 false false over.no_atom) inside))
        (λ other. omega (arith, other)) (cases_eq atom 0);
    last =
        ⊎_elim (λ low. omega (arith, low, over.positions))
        (λ past. absurd
        (both_ways (has set atom) (get_or_past set atom false past) inside))
        (cases_lt atom (length set));
  }

  -- no proper part keeps the reduct
  none_smaller : HasNoDisjunction normal → IsSetOver normal.atoms set
      → AreFounded normal trail.steps → IsMinimal normal set
  none_smaller plain over founded part proper keeps =
      proper.other
      (same_sets part set proper.positions proper.inside
      (λ atom inside.
      let here = is_atom over atom inside in
      founded atom here (in_not_false atom here inside) part
      (kept_closed plain part proper.inside keeps)))

  least : IsMinimal normal set → (part : List Bool) → IsProperSubset part set
      → SomeFailsN normal set part
  least minimal part proper =
      ⊎_elim
      (λ keeps. absurd (minimal part proper keeps)) (λ some. some)
      (each_or_some (KeepsN normal.bodies set part) (keeps_decided normal.bodies set part)
      normal.rules)

  -- a proper part lacks an atom of the set
  pub lacks_one : IsSetOver normal.atoms set → (part : List Bool) → IsProperSubset part set
      → LacksOne normal trail.steps part
  lacks_one over part proper =
      ⊎_elim
      (λ some.
      let here : IsIn set some.1 =
      kept_passes (has set) (atoms_of_normal normal) some.1 (some.0, some.2, some.3) in
      let it = is_atom over some.1 here in (
        some.1,
        record {
          is_atom = it;
          possible = in_not_false some.1 it here;
          outside = both_ways (has part some.1) (not-true (has part some.1) some.4);
        },
      ))
      (λ none. absurd (proper.other
      (same_sets part set proper.positions proper.inside
      (λ atom inside.
      let it = is_atom over atom inside in
      not-false (has part atom)
      (All-contains (λ one. not (has part one) ≡ false) (atoms_in normal set) atom none
      (has_kept (has set) (atoms_of_normal normal) atom
      (atom_there normal atom it.first it.last) inside))))))
      (any_or_none (λ atom. not (has part atom)) (atoms_in normal set))

  -- an assignment that meets the base clauses and where weight bodies are quiet
  pub candidate_model : Meets (values_of trail) (base_clauses normal)
      → IsQuiet None normal trail.steps → IsModelOf normal (values_of trail)
  candidate_model meets quiet = total_model normal trail is total meets quiet

pub minimal_models : MinimalModelsAreAnswerSets
minimal_models normal trail is total meets quiet minimal =
    let model = candidate_model normal trail is total meets quiet in
    record {
      answers = record {
        over = model.over;
        compute = model.compute;
        keeps = model.keeps;
        least = least normal trail is total minimal;
      };
      extends = model.extends;
    }

pub founded_models : FoundedModelsAreAnswerSets
founded_models normal trail is plain total meets quiet founded =
    minimal_models normal trail is total meets quiet
    (none_smaller normal trail is total plain
    (candidate_model normal trail is total meets quiet).over founded)
