-- The variables of the clauses for the parts of a set are those of atoms and bodies.
use Rattle.std.proofs.Common.{◌≤◌, ◌<◌, ℕ, Bool, true, false, not, List, [], ◌∷◌, ◌++◌, Some}
use Rattle.std.proofs.Common.{slice_get, length, get_or, map, filter, flat_map, All, ◌≡◌, subst}
use Rattle.std.proofs.Common.{arith}
use Rattle.std.proofs.Common.{if◌then◌else◌}
use Rattle.std.proofs.lemmas.List.Elements.{All-nil, All-cons, All-append, All-map, All-filter}
use Rattle.std.proofs.lemmas.List.Elements.{All-weaker, Contains-get_or}
use Rattle.std.proofs.lemmas.Option.{slice_get_within, get_or_from_slice_get}
use Rattle.ground_program.specs.Meaning.{has}
use Rattle.clause_store.specs.Clause.{IsOver, AreOver}
use Rattle.normal_program.specs.declared.normal.Part.{Part}
use Rattle.normal_program.specs.declared.normal.BodyOf.{BodyOf}
use Rattle.normal_program.specs.declared.normal.NormalRule.{NormalRule}
use Rattle.normal_program.specs.declared.normal.Normal.{Normal}
use Rattle.normal_program.specs.Body.{is_conjunctive}
use Rattle.normal_program.specs.Normal.{body_var, greatest_body_var}
use Rattle.normal_program.specs.Clauses.{positive, negative, literal_of, literals_of, all_clauses}
use Rattle.normal_program.specs.Clauses.{numbered_bodies, is_choice, rule_clauses, atoms_of_normal}
use Rattle.normal_program.specs.Clauses.{alone}
use Rattle.normal_program.specs.Loop.{IsAtomOf}
use Rattle.normal_program.specs.Range.{IsInRange}
use Rattle.normal_program.specs.Spent.{is_blocked, positive_parts, atoms_in, atoms_outside}
use Rattle.normal_program.specs.Spent.{inner_body_clauses, inner_choice_clauses, inner_clauses}
use Rattle.normal_program.proofs.lemmas.Base.EntailedLemmas.{numbered_at, numbers_within}
use Rattle.normal_program.proofs.lemmas.Base.OverLemmas.{all_flat, cleaned_over, positive_over}
use Rattle.normal_program.proofs.lemmas.Base.OverLemmas.{negative_over, all_clauses_over, atom_over}
use Rattle.normal_program.proofs.lemmas.Base.OverLemmas.{denied_over, part_over, alone_over}
use Rattle.normal_program.proofs.lemmas.Base.OverLemmas.{rules_over}

module _ (normal : Normal) (in_range : IsInRange normal) (set : List Bool) where
  abbrev vars : ℕ
  vars = greatest_body_var normal

  all_atoms : All (IsAtomOf normal) (atoms_of_normal normal)
  all_atoms k d h =
      let low =
      numbers_within 1 normal.atoms (get_or (atoms_of_normal normal) k d)
      (Contains-get_or (atoms_of_normal normal) k d h) in
      record { first = low.0; last = omega (arith, low.1) }

  outside_over : AreOver vars (map (λ atom. alone (negative atom)) (atoms_outside normal set))
  outside_over =
      alone_over normal in_range negative (denied_over normal in_range) (atoms_outside normal set)
      (All-filter (λ atom. not (has set atom)) (IsAtomOf normal) (atoms_of_normal normal) all_atoms)

  inside_over : AreOver vars (map negative (atoms_in normal set) ∷ [])
  inside_over =
      All-cons (All (IsOver vars)) (map negative (atoms_in normal set)) []
      (All-map (IsOver vars) negative (atoms_in normal set)
      (All-weaker (IsAtomOf normal) (λ atom. IsOver vars (negative atom))
      (denied_over normal in_range) (atoms_in normal set)
      (All-filter (has set) (IsAtomOf normal) (atoms_of_normal normal) all_atoms)))
      (All-nil (All (IsOver vars)))

  body_over : (item : ℕ × BodyOf) → slice_get normal.bodies item.0 ≡ Some item.1
      → AreOver vars (inner_body_clauses normal set item)
  body_over item here = by (is_conjunctive item.1) (is_blocked set item.1)
    where
      low : item.0 < length normal.bodies
      low = slice_get_within normal.bodies item.0 item.1 here

      atoms : All (λ (part : Part). IsAtomOf normal part.lit.atom) item.1.parts
      atoms =
          subst (λ (body : BodyOf). All (λ (part : Part). IsAtomOf normal part.lit.atom) body.parts)
          (get_or_from_slice_get normal.bodies item.0 item.1 item.1 here)
          (in_range.parts item.0 item.1 low)

      lits : All (IsOver vars) (literals_of (positive_parts item.1))
      lits =
          All-map (IsOver vars) (λ (part : Part). literal_of part.lit) (positive_parts item.1)
          (All-weaker (λ (part : Part). IsAtomOf normal part.lit.atom)
          (λ part. IsOver vars (literal_of part.lit)) (part_over normal in_range)
          (positive_parts item.1)
          (All-filter (λ (part : Part). not part.lit.negated)
          (λ (part : Part). IsAtomOf normal part.lit.atom) item.1.parts atoms))

      by : (b blocked : Bool) → AreOver vars
          (if not b then []
          else if blocked then alone (negative (body_var normal item.0)) ∷ []
          else all_clauses (body_var normal item.0) (literals_of (positive_parts item.1)))
      by false blocked = All-nil (All (IsOver vars))
      by true true =
          All-cons (All (IsOver vars)) (alone (negative (body_var normal item.0))) []
          (All-cons (IsOver vars) (negative (body_var normal item.0)) []
          (negative_over vars (body_var normal item.0) (omega arith) (omega (arith, low)))
          (All-nil (IsOver vars)))
          (All-nil (All (IsOver vars)))
      by true false =
          all_clauses_over vars (body_var normal item.0) (literals_of (positive_parts item.1))
          (omega arith) (omega (arith, low)) lits

  choice_over : (rule : NormalRule) → rule.body < length normal.bodies
      → All (IsAtomOf normal) rule.heads → AreOver vars (inner_choice_clauses normal set rule)
  choice_over rule low heads = by (is_choice rule.kind)
    where
      pair_over : (head : ℕ) → IsAtomOf normal head
          → All (IsOver vars) (negative (body_var normal rule.body) ∷ positive head ∷ [])
      pair_over head is =
          All-cons (IsOver vars) (negative (body_var normal rule.body)) (positive head ∷ [])
          (negative_over vars (body_var normal rule.body) (omega arith) (omega (arith, low)))
          (All-cons (IsOver vars) (positive head) [] (atom_over normal in_range head is)
          (All-nil (IsOver vars)))

      by : (b : Bool) → AreOver vars
          (if b then map (λ head. negative (body_var normal rule.body) ∷ positive head ∷ [])
          (filter (has set) rule.heads) else [])
      by true =
          All-map (All (IsOver vars))
          (λ head. negative (body_var normal rule.body) ∷ positive head ∷ [])
          (filter (has set) rule.heads)
          (All-weaker (IsAtomOf normal)
          (λ head. All (IsOver vars)
          (negative (body_var normal rule.body) ∷ positive head ∷ [])) pair_over
          (filter (has set) rule.heads)
          (All-filter (has set) (IsAtomOf normal) rule.heads heads))
      by false = All-nil (All (IsOver vars))

  bodies_over : AreOver vars (flat_map (inner_body_clauses normal set) (numbered_bodies normal))
  bodies_over =
      all_flat (All (IsOver vars)) (inner_body_clauses normal set) (numbered_bodies normal)
      (λ k d h. let item = get_or (numbered_bodies normal) k d in
      body_over item
      (numbered_at normal.bodies item (Contains-get_or (numbered_bodies normal) k d h)))

  choices_over : AreOver vars (flat_map (inner_choice_clauses normal set) normal.rules)
  choices_over =
      all_flat (All (IsOver vars)) (inner_choice_clauses normal set) normal.rules
      (λ k d h. choice_over (get_or normal.rules k d) (in_range.numbers k d h)
      (in_range.heads k d h))

  all_over : AreOver vars (inner_clauses normal set)
  all_over =
      let one = map (λ atom. alone (negative atom)) (atoms_outside normal set) in
      let two = map negative (atoms_in normal set) ∷ [] in
      let three = flat_map (inner_body_clauses normal set) (numbered_bodies normal) in
      let four = flat_map (rule_clauses normal) normal.rules in
      let five = flat_map (inner_choice_clauses normal set) normal.rules in
      let over = All (IsOver vars) in
      cleaned_over vars (one ++ two ++ three ++ four ++ five)
      (All-append over (one ++ two ++ three ++ four) five
      (All-append over (one ++ two ++ three) four
      (All-append over (one ++ two) three (All-append over one two outside_over inside_over)
      bodies_over)
      (rules_over normal in_range))
      choices_over)

-- the variables of the clauses for the parts of a set are those of atoms and bodies
pub inner_clauses-over : (normal : Normal) → IsInRange normal → (set : List Bool)
    → AreOver (greatest_body_var normal) (inner_clauses normal set)
inner_clauses-over = all_over
