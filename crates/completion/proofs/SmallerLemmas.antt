-- An assignment that meets the clauses for the parts of a set comes from a smaller part.
use Rattle.std.proofs.Common.{◌≡◌, ◌≤◌, ◌<◌, ◌+◌, ◌-◌, ℕ, Bool, true, false, not, List, [], ◌∷◌}
use Rattle.std.proofs.Common.{◌++◌, Some, slice_get, length, length-append, length-take-le, get_or}
use Rattle.std.proofs.Common.{get_or-take, get_or-append-add, map, filter, flat_map, All, Contains}
use Rattle.std.proofs.Common.{refl, sym, ap, subst, ◌∙◌, arith, ⊎_elim, if◌then◌else◌}
use Rattle.std.specs.List.{enumerate_from}
use Rattle.std.proofs.lemmas.Bool.{cases_Bool, cases_lt, cases_eq, both_ways, not-true}
use Rattle.std.proofs.lemmas.List.{get_or_append_left, get_or-map, length-map, get_or_default}
use Rattle.std.proofs.lemmas.List.{same_lists, get_or_past}
use Rattle.std.proofs.lemmas.List.Elements.{Contains-append_left, Contains-append_right}
use Rattle.std.proofs.lemmas.List.Elements.{Contains-get_or}
use Rattle.std.proofs.lemmas.Option.{slice_get-get_or, slice_get_within, get_or_from_slice_get}
use Rattle.ground_program.specs.Meaning.{has, IsIn, IsSetOver, IsProperSubset}
use Rattle.clause_store.specs.declared.literal.Lit.{Lit}
use Rattle.clause_store.specs.Clause.{truth, makes_true, HoldsIn, Meets}
use Rattle.clause_store.proofs.LiteralLemmas.{has_first, has_mapped, mapped_from, has_kept}
use Rattle.clause_store.proofs.LiteralLemmas.{kept_passes}
use Rattle.normal_program.specs.declared.normal.Part.{Part}
use Rattle.normal_program.specs.declared.normal.BodyOf.{BodyOf}
use Rattle.normal_program.specs.declared.normal.NormalRule.{NormalRule}
use Rattle.normal_program.specs.declared.normal.Normal.{Normal}
use Rattle.normal_program.specs.Body.{is_conjunctive, body_holds}
use Rattle.normal_program.specs.Normal.{body_var, extension, KeepsN, KeepsAllN}
use Rattle.normal_program.specs.Clauses.{positive, negative, alone, all_clauses, literals_of}
use Rattle.normal_program.specs.Clauses.{numbered_bodies, is_choice, rule_clauses, atoms_of_normal}
use Rattle.normal_program.specs.Loop.{IsAtomOf}
use Rattle.normal_program.specs.Range.{IsInRange}
use Rattle.normal_program.specs.Models.{IsAssignmentOf, set_of, front_of}
use Rattle.normal_program.specs.Spent.{is_blocked, positive_parts, atoms_in, atoms_outside}
use Rattle.normal_program.specs.Spent.{inner_body_clauses, inner_choice_clauses}
use Rattle.normal_program.proofs.lemmas.Base.TruthLemmas.{makes_true-negative, HoldsIn-cases}
use Rattle.normal_program.proofs.lemmas.Base.CleanLemmas.{kept_from, flat_has, hold_from_cleaned}
use Rattle.normal_program.proofs.lemmas.Base.BodyLemmas.{holds-all, all-holds, all_clauses-forth}
use Rattle.normal_program.proofs.lemmas.Base.BodyLemmas.{all_clauses-back}
use Rattle.normal_program.proofs.lemmas.Base.EntailedLemmas.{numbers_within}
use Rattle.completion.specs.Within.{IsSmaller, IsMetWithin, IsSmallerOf}
use Rattle.completion.proofs.InnerLemmas.{ReadsBy, same_by_turns, blocked_fails, positive_count}
use Rattle.completion.proofs.InnerLemmas.{count_positives, positives_count, holds_kept}
use Rattle.completion.proofs.InnerLemmas.{choice_holds_kept}
use Rattle.completion.proofs.AddsLemmas.{numbered_of}
use Rattle.completion.proofs.PartLemmas.{atom_there, none_at_0}

-- the body of a number stands among the numbered ones
number_there : (bodies : List BodyOf) (number : ℕ) (body : BodyOf)
    → slice_get bodies number ≡ Some body → Contains (enumerate_from 0 bodies) (number, body)
number_there bodies number body here =
    let item =
    numbered_of bodies bodies number body refl (slice_get_within bodies number body here)
    (sym (get_or_from_slice_get bodies number body body here)) in
    (number, item.0, sym item.1)

-- a negated variable alone is false
alone_false : (values : List Bool) (var : ℕ) → HoldsIn values (alone (negative var))
    → truth values var ≡ false
alone_false values var holds =
    not-true (truth values var)
    (sym (makes_true-negative values var)
    ∙ ⊎_elim (λ on. on) (λ none. absurd (omega (arith, none.2)))
    (HoldsIn-cases values (negative var) [] holds))

module _ (normal : Normal) (in_range : IsInRange normal) (set : List Bool)
    (over : IsSetOver normal.atoms set) (values : List Bool)
    (total : IsAssignmentOf normal values) (is : IsMetWithin normal set values) where
  part_length : length (set_of normal values) ≡ normal.atoms + 1
  part_length = length-take-le (normal.atoms + 1) values (omega (arith, total.variables))

  atoms_read : (atom : ℕ) → atom ≤ normal.atoms
      → truth values atom ≡ has (set_of normal values) atom
  atoms_read atom low = sym (get_or-take (normal.atoms + 1) values atom false (omega (arith, low)))

  -- each clause of the five kinds holds
  hold : (clause : List Lit) → Contains
      (map (λ atom. alone (negative atom)) (atoms_outside normal set)
      ++ map negative (atoms_in normal set) ∷ []
      ++ flat_map (inner_body_clauses normal set) (numbered_bodies normal)
      ++ flat_map (rule_clauses normal) normal.rules
      ++ flat_map (inner_choice_clauses normal set) normal.rules)
      clause → HoldsIn values clause
  hold =
      hold_from_cleaned values
      (map (λ atom. alone (negative atom)) (atoms_outside normal set)
      ++ map negative (atoms_in normal set) ∷ []
      ++ flat_map (inner_body_clauses normal set) (numbered_bodies normal)
      ++ flat_map (rule_clauses normal) normal.rules
      ++ flat_map (inner_choice_clauses normal set) normal.rules)
      is.clauses

  hold_choice : (clause : List Lit)
      → Contains (flat_map (inner_choice_clauses normal set) normal.rules) clause
      → HoldsIn values clause
  hold_choice clause here = hold clause
      (Contains-append_right
      (map (λ atom. alone (negative atom)) (atoms_outside normal set)
      ++ map negative (atoms_in normal set) ∷ []
      ++ flat_map (inner_body_clauses normal set) (numbered_bodies normal)
      ++ flat_map (rule_clauses normal) normal.rules)
      (flat_map (inner_choice_clauses normal set) normal.rules) clause here)

  hold_front : (clause : List Lit) → Contains
      (map (λ atom. alone (negative atom)) (atoms_outside normal set)
      ++ map negative (atoms_in normal set) ∷ []
      ++ flat_map (inner_body_clauses normal set) (numbered_bodies normal)
      ++ flat_map (rule_clauses normal) normal.rules)
      clause → HoldsIn values clause
  hold_front clause here = hold clause
      (Contains-append_left
      (map (λ atom. alone (negative atom)) (atoms_outside normal set)
      ++ map negative (atoms_in normal set) ∷ []
      ++ flat_map (inner_body_clauses normal set) (numbered_bodies normal)
      ++ flat_map (rule_clauses normal) normal.rules)
      (flat_map (inner_choice_clauses normal set) normal.rules) clause here)

  hold_rule : (clause : List Lit) → Contains (flat_map (rule_clauses normal) normal.rules) clause
      → HoldsIn values clause
  hold_rule clause here = hold_front clause
      (Contains-append_right
      (map (λ atom. alone (negative atom)) (atoms_outside normal set)
      ++ map negative (atoms_in normal set) ∷ []
      ++ flat_map (inner_body_clauses normal set) (numbered_bodies normal))
      (flat_map (rule_clauses normal) normal.rules) clause here)

  hold_start : (clause : List Lit) → Contains
      (map (λ atom. alone (negative atom)) (atoms_outside normal set)
      ++ map negative (atoms_in normal set) ∷ []
      ++ flat_map (inner_body_clauses normal set) (numbered_bodies normal))
      clause → HoldsIn values clause
  hold_start clause here = hold_front clause
      (Contains-append_left
      (map (λ atom. alone (negative atom)) (atoms_outside normal set)
      ++ map negative (atoms_in normal set) ∷ []
      ++ flat_map (inner_body_clauses normal set) (numbered_bodies normal))
      (flat_map (rule_clauses normal) normal.rules) clause here)

  hold_body : (clause : List Lit)
      → Contains (flat_map (inner_body_clauses normal set) (numbered_bodies normal)) clause
      → HoldsIn values clause
  hold_body clause here = hold_start clause
      (Contains-append_right
      (map (λ atom. alone (negative atom)) (atoms_outside normal set)
      ++ map negative (atoms_in normal set) ∷ [])
      (flat_map (inner_body_clauses normal set) (numbered_bodies normal)) clause here)

  hold_atom : (clause : List Lit) → Contains
      (map (λ atom. alone (negative atom)) (atoms_outside normal set)
      ++ map negative (atoms_in normal set) ∷ []) clause → HoldsIn values clause
  hold_atom clause here = hold_start clause
      (Contains-append_left
      (map (λ atom. alone (negative atom)) (atoms_outside normal set)
      ++ map negative (atoms_in normal set) ∷ [])
      (flat_map (inner_body_clauses normal set) (numbered_bodies normal)) clause here)

  -- an atom outside the set is false
  outside_false : (atom : ℕ) → 1 ≤ atom → atom ≤ normal.atoms → has set atom ≡ false
      → truth values atom ≡ false
  outside_false atom first last out =
      alone_false values atom
      (hold_atom (alone (negative atom))
      (Contains-append_left (map (λ one. alone (negative one)) (atoms_outside normal set))
      (map negative (atoms_in normal set) ∷ []) (alone (negative atom))
      (has_mapped (λ one. alone (negative one)) (atoms_outside normal set) atom
      (has_kept (λ one. not (has set one)) (atoms_of_normal normal) atom
      (atom_there normal atom first last) (ap not out)))))

  -- some atom of the set is false
  some_false : HoldsIn values (map negative (atoms_in normal set))
  some_false =
      hold_atom (map negative (atoms_in normal set))
      (Contains-append_right (map (λ one. alone (negative one)) (atoms_outside normal set))
      (map negative (atoms_in normal set) ∷ []) (map negative (atoms_in normal set))
      (has_first (map negative (atoms_in normal set)) []))

  -- the clauses of a conjunctive body hold
  body_there : (number : ℕ) (body : BodyOf) → slice_get normal.bodies number ≡ Some body
      → is_conjunctive body ≡ true → (blocked : Bool) → is_blocked set body ≡ blocked
      → (clause : List Lit)
      → Contains
      (if blocked then alone (negative (body_var normal number)) ∷ []
      else all_clauses (body_var normal number) (literals_of (positive_parts body)))
      clause → HoldsIn values clause
  body_there number body here conjunctive blocked e clause of_body =
      hold_body clause
      (flat_has (inner_body_clauses normal set) (numbered_bodies normal) (number, body) clause
      (number_there normal.bodies number body here)
      (subst
      (λ b. Contains
      (if not b then []
      else if is_blocked set body then alone (negative (body_var normal number)) ∷ []
      else all_clauses (body_var normal number) (literals_of (positive_parts body))) clause)
      (sym conjunctive)
      (subst
      (λ b. Contains
      (if b then alone (negative (body_var normal number)) ∷ []
      else all_clauses (body_var normal number) (literals_of (positive_parts body))) clause)
      (sym e) of_body)))

  weight_body : (number : ℕ) (body : BodyOf) → slice_get normal.bodies number ≡ Some body
      → is_conjunctive body ≡ false
      → truth values (body_var normal number) ≡ body_holds set (set_of normal values) body
  weight_body number body here other = is.weights number body here other

  blocked_body : (number : ℕ) (body : BodyOf) → slice_get normal.bodies number ≡ Some body
      → is_conjunctive body ≡ true → is_blocked set body ≡ true
      → truth values (body_var normal number) ≡ body_holds set (set_of normal values) body
  blocked_body number body here conjunctive blocked =
      alone_false values (body_var normal number)
      (body_there number body here conjunctive true blocked
      (alone (negative (body_var normal number)))
      (has_first (alone (negative (body_var normal number))) []))
      ∙ sym (blocked_fails set (set_of normal values) body conjunctive blocked)

  -- atoms are read, with what is read of bodies left open
  module _ (number : ℕ) (body : BodyOf) (here : slice_get normal.bodies number ≡ Some body)
      (conjunctive : is_conjunctive body ≡ true) (free : is_blocked set body ≡ false) where
    atoms : All (λ (item : Part). IsAtomOf normal item.lit.atom) body.parts
    atoms =
        subst (λ (other : BodyOf). All (λ (item : Part). IsAtomOf normal item.lit.atom) other.parts)
        (get_or_from_slice_get normal.bodies number body body here)
        (in_range.parts number body (slice_get_within normal.bodies number body here))

    free_body : truth values (body_var normal number) ≡ body_holds set (set_of normal values) body
    free_body =
        same_by_turns (truth values (body_var normal number))
        (body_holds set (set_of normal values) body)
        (λ on. all-holds set (set_of normal values) body conjunctive
        (positive_count set (set_of normal values) body free
        (positives_count normal set values (set_of normal values) atoms_read body atoms
        (all_clauses-forth values (body_var normal number) (literals_of (positive_parts body))
        (body_there number body here conjunctive false free) on))))
        (λ holds. all_clauses-back values (body_var normal number)
        (literals_of (positive_parts body)) (body_there number body here conjunctive false free)
        (count_positives normal set values (set_of normal values) atoms_read body atoms
        (holds-all set (set_of normal values) body conjunctive holds)))

  body_read : (number : ℕ) (body : BodyOf) → slice_get normal.bodies number ≡ Some body
      → truth values (body_var normal number) ≡ body_holds set (set_of normal values) body
  body_read number body here =
      ⊎_elim
      (λ conjunctive. ⊎_elim (blocked_body number body here conjunctive)
      (free_body number body here conjunctive) (cases_Bool (is_blocked set body)))
      (weight_body number body here) (cases_Bool (is_conjunctive body))

  reads : ReadsBy normal set values (set_of normal values)
  reads = record { atoms = atoms_read; bodies = body_read }

  -- the clause of a rule that isn't a choice rule holds
  rule_holds : (rule : NormalRule) → Contains normal.rules rule → is_choice rule.kind ≡ false
      → HoldsIn values (negative (body_var normal rule.body) ∷ map positive rule.heads)
  rule_holds rule here other =
      let clause = negative (body_var normal rule.body) ∷ map positive rule.heads in
      hold_rule clause
      (flat_has (rule_clauses normal) normal.rules rule clause here
      (subst (λ b. Contains (if b then [] else clause ∷ []) clause) (sym other)
      (has_first clause [])))

  -- the clauses of a choice rule hold
  choice_holds : (rule : NormalRule) → Contains normal.rules rule → is_choice rule.kind ≡ true
      → (head : ℕ) → Contains rule.heads head → IsIn set head
      → HoldsIn values (negative (body_var normal rule.body) ∷ positive head ∷ [])
  choice_holds rule here choice head there inside =
      let var = body_var normal rule.body in
      let clause = negative var ∷ positive head ∷ [] in
      let inner = filter (has set) rule.heads in
      hold_choice clause
      (flat_has (inner_choice_clauses normal set) normal.rules rule clause here
      (subst
      (λ b. Contains
      (if b then map (λ one. negative var ∷ positive one ∷ []) inner else []) clause)
      (sym choice)
      (has_mapped (λ one. negative var ∷ positive one ∷ []) inner head
      (has_kept (has set) rule.heads head there inside))))

  rules_kept : KeepsAllN normal set (set_of normal values)
  rules_kept k d h =
      let rule = get_or normal.rules k d in
      let here = Contains-get_or normal.rules k d h in
      ⊎_elim
      (λ choice. choice_holds_kept normal set values (set_of normal values) reads rule
      (in_range.numbers k d h) (in_range.heads k d h) choice (choice_holds rule here choice))
      (λ other. holds_kept normal set values (set_of normal values) reads rule
      (in_range.numbers k d h) (in_range.heads k d h) (in_range.heads_fit k d h) other
      (rule_holds rule here other))
      (cases_Bool (is_choice rule.kind))

  -- an atom of the assignment is in the set
  inside_set : (atom : ℕ) → IsIn (set_of normal values) atom → IsIn set atom
  inside_set atom inside =
      ⊎_elim (λ there. there)
      (λ out. absurd
      (both_ways (has (set_of normal values) atom)
      (⊎_elim
      (λ low. sym (atoms_read atom (omega (arith, low)))
      ∙ ⊎_elim
      (λ zero. ap (truth values) zero
      ∙ get_or_from_slice_get values 0 false false total.no_variable)
      (λ some. outside_false atom (omega (arith, some)) (omega (arith, low)) out)
      (cases_eq atom 0))
      (λ high. get_or_past (set_of normal values) atom false (omega (arith, high, part_length)))
      (cases_lt atom (normal.atoms + 1)))
      inside))
      (cases_Bool (has set atom))

  differs : set_of normal values ≡ set → ⊥
  differs same =
      let found =
      mapped_from negative (atoms_in normal set) some_false.1
      (some_false.0, some_false.2, some_false.3) in
      let low =
      numbers_within 1 normal.atoms found.0
      (kept_from (has set) (atoms_of_normal normal) found.0 found.1) in
      let inside : has set found.0 ≡ true =
      kept_passes (has set) (atoms_of_normal normal) found.0 found.1 in
      both_ways (makes_true values some_false.1)
      (ap (makes_true values) (sym found.2) ∙ makes_true-negative values found.0
      ∙ ap not
      (atoms_read found.0 (omega (arith, low.1)) ∙ ap (λ one. has one found.0) same ∙ inside))
      some_false.4

  proper : IsProperSubset (set_of normal values) set
  proper = record {
    positions = part_length ∙ sym over.positions;
    inside = inside_set;
    other = differs;
  }

  front_length : length (front_of normal values) ≡ normal.atoms + 1 + length normal.bodies
  front_length = length-take-le (normal.atoms + 1 + length normal.bodies) values total.variables

  -- what stands at a place of the front stands there in the extension
  extension_at : (k : ℕ) (d : Bool) → k < normal.atoms + 1 + length normal.bodies
      → get_or values k d ≡ get_or (extension normal set (set_of normal values)) k d
  extension_at k d h =
      ⊎_elim
      (λ low. sym
      (get_or_append_left (set_of normal values)
      (map (body_holds set (set_of normal values)) normal.bodies) d k
      (omega (arith, low, part_length)) ∙ get_or-take (normal.atoms + 1) values k d low))
      (λ high.
      let nobody : BodyOf = record { bound = 0; parts = [] } in
      let number = k - (normal.atoms + 1) in
      let within : number < length normal.bodies = omega (arith, h, high) in
      let place : length (set_of normal values) + number ≡ k =
      omega (arith, part_length, high) in
      let place' : k ≡ body_var normal number = omega (arith, high) in
      get_or_default values k d false (omega (arith, h, total.variables)) ∙ ap (truth values) place'
      ∙ body_read number (get_or normal.bodies number nobody)
      (slice_get-get_or normal.bodies number nobody within)
      ∙ sym
      (ap
      (λ j. get_or
      (set_of normal values ++ map (body_holds set (set_of normal values)) normal.bodies) j d)
      (sym place)
      ∙ get_or-append-add (set_of normal values)
      (map (body_holds set (set_of normal values)) normal.bodies) number d
      ∙ get_or-map (body_holds set (set_of normal values)) normal.bodies number nobody d within))
      (cases_lt k (normal.atoms + 1))

  is_extension : front_of normal values ≡ extension normal set (set_of normal values)
  is_extension =
      same_lists (front_of normal values) (extension normal set (set_of normal values))
      (omega (
        arith,
        front_length,
        part_length,
        length-append (set_of normal values)
            (map (body_holds set (set_of normal values)) normal.bodies),
        length-map normal.bodies (body_holds set (set_of normal values)),
      ))
      (λ k d h. get_or-take (normal.atoms + 1 + length normal.bodies) values k d
      (omega (arith, h, front_length))
      ∙ extension_at k d (omega (arith, h, front_length)))

  makes : IsSmallerOf normal set values
  makes = record {
    smaller = record { proper = proper; keeps = rules_kept };
    extends = is_extension;
  }

-- an assignment that meets the clauses and the meaning of the weight bodies comes from a smaller
-- part
pub met_makes_smaller : (normal : Normal) → IsInRange normal → (set : List Bool)
    → IsSetOver normal.atoms set → (values : List Bool) → IsAssignmentOf normal values
    → IsMetWithin normal set values → IsSmallerOf normal set values
met_makes_smaller = makes
