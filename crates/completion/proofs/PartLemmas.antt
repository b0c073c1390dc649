-- The extension of a smaller part meets the clauses for the parts of a set.
use Rattle.std.proofs.Common.{◌≡◌, ◌≤◌, ◌<◌, ◌+◌, ◌-◌, ℕ, Bool, true, false, not, List, [], ◌∷◌}
use Rattle.std.proofs.Common.{◌++◌, Some, slice_get, length, get_or, get_or-append-add, map, filter}
use Rattle.std.proofs.Common.{flat_map, All, Contains, refl, sym, ap, subst, ◌∙◌, arith, ⊎_elim}
use Rattle.std.proofs.Common.{if◌then◌else◌, take}
use Rattle.std.proofs.Math.Seq.{take-append_seam}
use Rattle.std.proofs.lemmas.Bool.{cases_Bool, cases_eq, both_ways, not-true, not-false}
use Rattle.std.proofs.lemmas.List.{get_or_append_left, get_or-map, get_or_default, same_lists}
use Rattle.std.proofs.lemmas.List.Elements.{All-contains, Contains-append_cases}
use Rattle.std.proofs.lemmas.Option.{slice_get_within, get_or_from_slice_get}
use Rattle.ground_program.specs.Meaning.{has, IsIn, IsSetOver}
use Rattle.ground_program.specs.Program.{HeadsFit}
use Rattle.clause_store.specs.declared.literal.Lit.{Lit}
use Rattle.clause_store.specs.Clause.{truth, HoldsIn, Meets}
use Rattle.clause_store.proofs.LiteralLemmas.{first_or_later, mapped_from, has_mapped, has_kept}
use Rattle.clause_store.proofs.LiteralLemmas.{kept_passes, any_or_none}
use Rattle.normal_program.specs.declared.normal.Part.{Part}
use Rattle.normal_program.specs.declared.normal.BodyOf.{BodyOf}
use Rattle.normal_program.specs.declared.normal.NormalRule.{NormalRule}
use Rattle.normal_program.specs.declared.normal.Normal.{Normal}
use Rattle.normal_program.specs.Body.{is_conjunctive, body_holds}
use Rattle.normal_program.specs.Normal.{body_var, extension, KeepsN}
use Rattle.normal_program.specs.Clauses.{positive, negative, alone, all_clauses, literals_of}
use Rattle.normal_program.specs.Clauses.{numbered_bodies, is_choice, rule_clauses, atoms_of_normal}
use Rattle.normal_program.specs.Loop.{IsAtomOf}
use Rattle.normal_program.specs.Range.{IsInRange}
use Rattle.normal_program.specs.Models.{set_of}
use Rattle.normal_program.specs.Spent.{is_blocked, positive_parts, atoms_in, atoms_outside}
use Rattle.normal_program.specs.Spent.{inner_body_clauses, inner_choice_clauses, inner_clauses}
use Rattle.normal_program.proofs.lemmas.Base.TruthLemmas.{makes_true-negative, HoldsIn-here}
use Rattle.normal_program.proofs.lemmas.Base.TruthLemmas.{HoldsIn-by}
use Rattle.normal_program.proofs.lemmas.Base.CleanLemmas.{kept_from, flat_from, cleaned_hold}
use Rattle.normal_program.proofs.lemmas.Base.BodyLemmas.{holds-all, all-holds, all_clauses-hold}
use Rattle.normal_program.proofs.lemmas.Base.EntailedLemmas.{numbered_at, numbers_within}
use Rattle.completion.specs.Within.{IsSmaller, IsMetWithin}
use Rattle.completion.proofs.RowLemmas.{length-numbers, get_or-numbers}
use Rattle.completion.proofs.InnerLemmas.{ReadsBy, same_by_turns, blocked_fails, positive_count}
use Rattle.completion.proofs.InnerLemmas.{count_positives, positives_count, kept_holds}
use Rattle.completion.proofs.InnerLemmas.{choice_kept_holds}

-- an atom stands among the atoms
pub atom_there : (normal : Normal) (atom : ℕ) → 1 ≤ atom → atom ≤ normal.atoms
    → Contains (atoms_of_normal normal) atom
atom_there normal atom first last = (
  atom - 1,
  omega (arith, length-numbers 1 normal.atoms, first, last),
  omega (arith, get_or-numbers 1 normal.atoms (atom - 1) atom (omega (arith, first, last)), first),
)

-- place 0 of a set is false
pub none_at_0 : (normal : Normal) (set : List Bool) → IsSetOver normal.atoms set
    → has set 0 ≡ false
none_at_0 normal set over = get_or_from_slice_get set 0 false false over.no_atom

-- the one clause of a list
pub the_clause : (one clause : List Lit) → Contains (one ∷ []) clause → one ≡ clause
the_clause one clause here =
    ⊎_elim (λ e. e) (λ none. absurd (omega (arith, none.1))) (first_or_later one clause [] here)

module _ (normal : Normal) (in_range : IsInRange normal) (set : List Bool)
    (over : IsSetOver normal.atoms set) (part : List Bool) (is : IsSmaller normal set part) where
  reads : ReadsBy normal set (extension normal set part) part
  reads = record {
    atoms = λ atom low.
        get_or_append_left part (map (body_holds set part) normal.bodies) false atom
        (omega (arith, low, is.proper.positions, over.positions));
    bodies = λ number body here.
        let low : number < length normal.bodies = slice_get_within normal.bodies number body here in
        let place : body_var normal number ≡ length part + number =
        omega (arith, is.proper.positions, over.positions) in
        ap (truth (part ++ map (body_holds set part) normal.bodies)) place
        ∙ get_or-append-add part (map (body_holds set part) normal.bodies) number false
        ∙ get_or-map (body_holds set part) normal.bodies number body false low
        ∙ ap (body_holds set part) (get_or_from_slice_get normal.bodies number body body here);
  }

  -- of atoms outside
  outside_hold : (clause : List Lit)
      → Contains (map (λ atom. alone (negative atom)) (atoms_outside normal set)) clause
      → HoldsIn (extension normal set part) clause
  outside_hold clause here =
      let found =
      mapped_from (λ atom. alone (negative atom)) (atoms_outside normal set) clause here in
      let out : has set found.0 ≡ false =
      not-true _
      (kept_passes (λ one. not (has set one)) (atoms_of_normal normal) found.0 found.1) in
      let low =
      numbers_within 1 normal.atoms found.0
      (kept_from (λ one. not (has set one)) (atoms_of_normal normal) found.0 found.1) in
      let away : has part found.0 ≡ false =
      ⊎_elim
      (λ inside. absurd (both_ways (has set found.0) out (is.proper.inside found.0 inside)))
      (λ gone. gone) (cases_Bool (has part found.0)) in
      subst (HoldsIn (extension normal set part)) found.2
      (HoldsIn-here (extension normal set part) (negative found.0) []
      (makes_true-negative (extension normal set part) found.0
      ∙ ap not (reads.atoms found.0 (omega (arith, low.1)) ∙ away)))

  -- a part that has all atoms of the set is the set
  same_at : All (λ atom. not (has part atom) ≡ false) (atoms_in normal set) → (at : ℕ)
      → at < normal.atoms + 1 → has part at ≡ has set at
  same_at all at low =
      same_by_turns (has part at) (has set at) (is.proper.inside at)
      (λ inside. ⊎_elim
      (λ zero. absurd
      (both_ways (has set at) (ap (has set) zero ∙ none_at_0 normal set over) inside))
      (λ some. not-false (has part at)
      (All-contains (λ atom. not (has part atom) ≡ false) (atoms_in normal set) at all
      (has_kept (has set) (atoms_of_normal normal) at
      (atom_there normal at (omega (arith, some)) (omega (arith, low))) inside)))
      (cases_eq at 0))

  same : All (λ atom. not (has part atom) ≡ false) (atoms_in normal set) → part ≡ set
  same all =
      same_lists part set is.proper.positions
      (λ k d h. get_or_default part k d false h
      ∙ same_at all k (omega (arith, h, is.proper.positions, over.positions))
      ∙ sym (get_or_default set k d false (omega (arith, h, is.proper.positions))))

  -- some atom of the set isn't in the part
  inside_holds : (clause : List Lit) → Contains (map negative (atoms_in normal set) ∷ []) clause
      → HoldsIn (extension normal set part) clause
  inside_holds clause here =
      subst (HoldsIn (extension normal set part))
      (the_clause (map negative (atoms_in normal set)) clause here)
      (⊎_elim
      (λ some.
      let there : Contains (atoms_in normal set) some.1 = (some.0, some.2, some.3) in
      let low =
      numbers_within 1 normal.atoms some.1
      (kept_from (has set) (atoms_of_normal normal) some.1 there) in
      HoldsIn-by (extension normal set part) (map negative (atoms_in normal set))
      (negative some.1) (has_mapped negative (atoms_in normal set) some.1 there)
      (makes_true-negative (extension normal set part) some.1
      ∙ ap not (reads.atoms some.1 (omega (arith, low.1))) ∙ some.4))
      (λ none. absurd (is.proper.other (same none)))
      (any_or_none (λ atom. not (has part atom)) (atoms_in normal set)))

  -- of bodies
  body_hold : (item : ℕ × BodyOf) → slice_get normal.bodies item.0 ≡ Some item.1
      → (clause : List Lit) → (b : Bool) → is_conjunctive item.1 ≡ b → (blocked : Bool)
      → is_blocked set item.1 ≡ blocked
      → Contains
      (if not b then []
      else if blocked then alone (negative (body_var normal item.0)) ∷ []
      else all_clauses (body_var normal item.0) (literals_of (positive_parts item.1)))
      clause → HoldsIn (extension normal set part) clause
  body_hold item at clause false conjunctive blocked e here = absurd (omega (arith, here.1))
  body_hold item at clause true conjunctive true e here =
      subst (HoldsIn (extension normal set part))
      (the_clause (alone (negative (body_var normal item.0))) clause here)
      (HoldsIn-here (extension normal set part) (negative (body_var normal item.0)) []
      (makes_true-negative (extension normal set part) (body_var normal item.0)
      ∙ ap not (reads.bodies item.0 item.1 at ∙ blocked_fails set part item.1 conjunctive e)))
  body_hold item at clause true conjunctive false e here =
      let atoms : All (λ (one : Part). IsAtomOf normal one.lit.atom) item.1.parts =
      subst (λ (body : BodyOf). All (λ (one : Part). IsAtomOf normal one.lit.atom) body.parts)
      (get_or_from_slice_get normal.bodies item.0 item.1 item.1 at)
      (in_range.parts item.0 item.1 (slice_get_within normal.bodies item.0 item.1 at)) in
      all_clauses-hold (extension normal set part) (body_var normal item.0)
      (literals_of (positive_parts item.1))
      (λ on. count_positives normal set (extension normal set part) part reads.atoms item.1 atoms
      (holds-all set part item.1 conjunctive (sym (reads.bodies item.0 item.1 at) ∙ on)))
      (λ all. reads.bodies item.0 item.1 at
      ∙ all-holds set part item.1 conjunctive
      (positive_count set part item.1 e
      (positives_count normal set (extension normal set part) part reads.atoms item.1 atoms all)))
      clause here

  bodies_hold : (clause : List Lit)
      → Contains (flat_map (inner_body_clauses normal set) (numbered_bodies normal)) clause
      → HoldsIn (extension normal set part) clause
  bodies_hold clause here =
      let found = flat_from (inner_body_clauses normal set) (numbered_bodies normal) clause here in
      body_hold found.0 (numbered_at normal.bodies found.0 found.1) clause
      (is_conjunctive found.0.1) refl (is_blocked set found.0.1) refl found.2

  -- of rules
  rule_number : (rule : NormalRule) → Contains normal.rules rule → rule.body < length normal.bodies
  rule_number rule here =
      All-contains (λ (one : NormalRule). one.body < length normal.bodies) normal.rules rule
      in_range.numbers here

  rule_atoms : (rule : NormalRule) → Contains normal.rules rule
      → All (IsAtomOf normal) rule.heads
  rule_atoms rule here =
      All-contains (λ (one : NormalRule). All (IsAtomOf normal) one.heads) normal.rules rule
      in_range.heads here

  rule_hold : (rule : NormalRule) → Contains normal.rules rule → (clause : List Lit) → (b : Bool)
      → is_choice rule.kind ≡ b
      → Contains
      (if b then [] else (negative (body_var normal rule.body) ∷ map positive rule.heads)
      ∷ []) clause → HoldsIn (extension normal set part) clause
  rule_hold rule there clause true choice here = absurd (omega (arith, here.1))
  rule_hold rule there clause false other here =
      subst (HoldsIn (extension normal set part))
      (the_clause (negative (body_var normal rule.body) ∷ map positive rule.heads) clause here)
      (kept_holds normal set (extension normal set part) part reads rule (rule_number rule there)
      (rule_atoms rule there)
      (All-contains (λ (one : NormalRule). HeadsFit one.kind one.heads) normal.rules rule
      in_range.heads_fit there)
      other (All-contains (KeepsN normal.bodies set part) normal.rules rule is.keeps there))

  rules_hold : (clause : List Lit) → Contains (flat_map (rule_clauses normal) normal.rules) clause
      → HoldsIn (extension normal set part) clause
  rules_hold clause here =
      let found = flat_from (rule_clauses normal) normal.rules clause here in
      rule_hold found.0 found.1 clause (is_choice found.0.kind) refl found.2

  choice_hold : (rule : NormalRule) → Contains normal.rules rule → (clause : List Lit) → (b : Bool)
      → is_choice rule.kind ≡ b
      → Contains
      (if b then map (λ head. negative (body_var normal rule.body) ∷ positive head ∷ [])
      (filter (has set) rule.heads) else []) clause → HoldsIn (extension normal set part) clause
  choice_hold rule there clause false other here = absurd (omega (arith, here.1))
  choice_hold rule there clause true choice here =
      let found =
      mapped_from (λ head. negative (body_var normal rule.body) ∷ positive head ∷ [])
      (filter (has set) rule.heads) clause here in
      subst (HoldsIn (extension normal set part)) found.2
      (choice_kept_holds normal set (extension normal set part) part reads rule
      (rule_number rule there) (rule_atoms rule there) choice
      (All-contains (KeepsN normal.bodies set part) normal.rules rule is.keeps there) found.0
      (kept_from (has set) rule.heads found.0 found.1)
      (kept_passes (has set) rule.heads found.0 found.1))

  choices_hold : (clause : List Lit)
      → Contains (flat_map (inner_choice_clauses normal set) normal.rules) clause
      → HoldsIn (extension normal set part) clause
  choices_hold clause here =
      let found = flat_from (inner_choice_clauses normal set) normal.rules clause here in
      choice_hold found.0 found.1 clause (is_choice found.0.kind) refl found.2

  all_hold : Meets (extension normal set part) (inner_clauses normal set)
  all_hold =
      let one = map (λ atom. alone (negative atom)) (atoms_outside normal set) in
      let two = map negative (atoms_in normal set) ∷ [] in
      let three = flat_map (inner_body_clauses normal set) (numbered_bodies normal) in
      let four = flat_map (rule_clauses normal) normal.rules in
      let five = flat_map (inner_choice_clauses normal set) normal.rules in
      cleaned_hold (extension normal set part) (one ++ two ++ three ++ four ++ five)
      (λ clause here. ⊎_elim
      (λ front. ⊎_elim
      (λ start. ⊎_elim
      (λ first. ⊎_elim (outside_hold clause) (inside_holds clause)
      (Contains-append_cases one two clause first))
      (bodies_hold clause) (Contains-append_cases (one ++ two) three clause start))
      (rules_hold clause) (Contains-append_cases (one ++ two ++ three) four clause front))
      (choices_hold clause)
      (Contains-append_cases (one ++ two ++ three ++ four) five clause here))

  -- the atoms of the extension are the part
  atoms_are : set_of normal (extension normal set part) ≡ part
  atoms_are =
      ap (λ n. take n (part ++ map (body_holds set part) normal.bodies))
      (sym (is.proper.positions ∙ over.positions))
      ∙ take-append_seam part (map (body_holds set part) normal.bodies)

  met : IsMetWithin normal set (extension normal set part)
  met = record {
    clauses = all_hold;
    weights = λ number body here weight.
        reads.bodies number body here
        ∙ ap (λ one. body_holds set one body) (sym atoms_are);
  }

-- the extension of a smaller part meets the clauses and the meaning of the weight bodies
pub smaller_meets : (normal : Normal) → IsInRange normal → (set : List Bool)
    → IsSetOver normal.atoms set → (part : List Bool) → IsSmaller normal set part
    → IsMetWithin normal set (extension normal set part)
smaller_meets = met
