-- The base clauses and the meaning of the weight bodies make a model.
use Rattle.std.proofs.Common.{◌≡◌, ◌≤◌, ◌<◌, ◌+◌, ◌-◌, ℕ, Bool, true, false, not, List, [], ◌∷◌}
use Rattle.std.proofs.Common.{◌++◌, Some, slice_get, length, length-append, length-take-le, get_or}
use Rattle.std.proofs.Common.{get_or-take, get_or-append-add, map, flat_map, All, Contains, refl}
use Rattle.std.proofs.Common.{sym, ap, subst, ◌∙◌, arith, if◌then◌else◌, ⊎_elim, zero-add}
use Rattle.std.specs.List.{enumerate_from}
use Rattle.std.proofs.lemmas.Bool.{cases_Bool, cases_lt, both_ways}
use Rattle.std.proofs.lemmas.List.{get_or_append_left, get_or-map, length-map, get_or_default}
use Rattle.std.proofs.lemmas.List.{same_lists}
use Rattle.std.proofs.lemmas.List.Elements.{Contains-append_left, Contains-append_right}
use Rattle.std.proofs.lemmas.List.Elements.{Contains-get_or}
use Rattle.std.proofs.lemmas.List.FromFn.{length-enumerate_from, get_or-enumerate_from}
use Rattle.std.proofs.lemmas.Option.{slice_get-get_or, slice_get_within, get_or_from_slice_get}
use Rattle.ground_program.specs.Meaning.{has, IsSetOver}
use Rattle.clause_store.specs.declared.literal.Lit.{Lit}
use Rattle.clause_store.specs.Clause.{truth, makes_true, HoldsIn, Meets}
use Rattle.clause_store.proofs.LiteralLemmas.{has_first, has_mapped}
use Rattle.normal_program.specs.declared.normal.BodyOf.{BodyOf}
use Rattle.normal_program.specs.declared.normal.Normal.{Normal}
use Rattle.normal_program.specs.Body.{is_conjunctive, body_holds}
use Rattle.normal_program.specs.Normal.{body_var, extension, KeepsAllN, MeetsComputeN}
use Rattle.normal_program.specs.Clauses.{positive, negative, literals_of, all_clauses}
use Rattle.normal_program.specs.Clauses.{numbered_bodies, body_clauses, is_choice, rule_clauses}
use Rattle.normal_program.specs.Clauses.{support_clause, atoms_of_normal, alone, compute_clauses}
use Rattle.normal_program.specs.Clauses.{base_clauses}
use Rattle.normal_program.specs.Limit.{IsNormal}
use Rattle.normal_program.specs.Loop.{IsAtomOf}
use Rattle.normal_program.specs.Range.{IsInRange}
use Rattle.normal_program.proofs.RangeLemmas.{IsNormal-in_range}
use Rattle.normal_program.specs.Models.{IsAssignmentOf, set_of, front_of, MeansWeightBodies}
use Rattle.normal_program.specs.Models.{IsModelOf, MakeModels}
use Rattle.normal_program.proofs.lemmas.Base.TruthLemmas.{makes_true-positive, makes_true-negative}
use Rattle.normal_program.proofs.lemmas.Base.TruthLemmas.{HoldsIn-cases}
use Rattle.normal_program.proofs.lemmas.Base.CleanLemmas.{flat_has, hold_from_cleaned}
use Rattle.normal_program.proofs.lemmas.Base.BodyLemmas.{holds-all, all-holds, all_clauses-forth}
use Rattle.normal_program.proofs.lemmas.Base.BodyLemmas.{all_clauses-back}
use Rattle.normal_program.proofs.lemmas.Base.EntailedLemmas.{literals-count, count-literals}
use Rattle.normal_program.proofs.lemmas.Base.RuleLemmas.{Reads, choice-kept, rule_clause-keeps}

-- the item of a number stands among the numbered ones
numbered_has : {X : Type 0} (xs : List X) (number : ℕ) (x : X) → slice_get xs number ≡ Some x
    → Contains (enumerate_from 0 xs) (number, x)
numbered_has xs number x here =
    let within : number < length xs = slice_get_within xs number x here in
    let number_same : 0 + number ≡ number = zero-add number in
    let item_same : get_or xs number x ≡ x = get_or_from_slice_get xs number x x here in (
      number,
      omega (arith, within, length-enumerate_from 0 xs),
      get_or-enumerate_from 0 xs number (number, x) within ∙ (λ i. (number_same i, item_same i)),
    )

-- two truth values that follow from each other are the same
same_truth : (one two : Bool) → (one ≡ true → two ≡ true) → (two ≡ true → one ≡ true) → one ≡ two
same_truth true two forth back = sym (forth refl)
same_truth false true forth back = back refl
same_truth false false forth back = refl

-- the one literal of a clause is true
alone_true : (values : List Bool) (lit : Lit) → HoldsIn values (alone lit)
    → makes_true values lit ≡ true
alone_true values lit holds =
    ⊎_elim (λ on. on) (λ none. absurd (omega (arith, none.2))) (HoldsIn-cases values lit [] holds)

module _ (normal : Normal) (in_range : IsInRange normal) (values : List Bool)
    (total : IsAssignmentOf normal values) (meets : Meets values (base_clauses normal))
    (weights : MeansWeightBodies normal values) where
  set_length : length (set_of normal values) ≡ normal.atoms + 1
  set_length = length-take-le (normal.atoms + 1) values (omega (arith, total.variables))

  atoms_read : (atom : ℕ) → atom ≤ normal.atoms
      → truth values atom ≡ has (set_of normal values) atom
  atoms_read atom low = sym (get_or-take (normal.atoms + 1) values atom false (omega (arith, low)))

  hold : (clause : List Lit) → Contains
      (flat_map (body_clauses normal) (numbered_bodies normal)
      ++ flat_map (rule_clauses normal) normal.rules
      ++ map (support_clause normal) (atoms_of_normal normal) ++ compute_clauses normal)
      clause → HoldsIn values clause
  hold =
      hold_from_cleaned values
      (flat_map (body_clauses normal) (numbered_bodies normal)
      ++ flat_map (rule_clauses normal) normal.rules
      ++ map (support_clause normal) (atoms_of_normal normal) ++ compute_clauses normal)
      meets

  -- so do the clauses of the bodies and of the rules
  hold_front : (clause : List Lit)
      → Contains
      (flat_map (body_clauses normal) (numbered_bodies normal)
      ++ flat_map (rule_clauses normal) normal.rules) clause
      → HoldsIn values clause
  hold_front clause here = hold clause
      (Contains-append_left
      (flat_map (body_clauses normal) (numbered_bodies normal)
      ++ flat_map (rule_clauses normal) normal.rules
      ++ map (support_clause normal) (atoms_of_normal normal)) (compute_clauses normal)
      clause
      (Contains-append_left
      (flat_map (body_clauses normal) (numbered_bodies normal)
      ++ flat_map (rule_clauses normal) normal.rules)
      (map (support_clause normal) (atoms_of_normal normal)) clause here))

  hold_body : (clause : List Lit)
      → Contains (flat_map (body_clauses normal) (numbered_bodies normal)) clause
      → HoldsIn values clause
  hold_body clause here = hold_front clause
      (Contains-append_left (flat_map (body_clauses normal) (numbered_bodies normal))
      (flat_map (rule_clauses normal) normal.rules) clause here)

  hold_rule : (clause : List Lit) → Contains (flat_map (rule_clauses normal) normal.rules) clause
      → HoldsIn values clause
  hold_rule clause here = hold_front clause
      (Contains-append_right (flat_map (body_clauses normal) (numbered_bodies normal))
      (flat_map (rule_clauses normal) normal.rules) clause here)

  hold_compute : (clause : List Lit) → Contains (compute_clauses normal) clause
      → HoldsIn values clause
  hold_compute clause here = hold clause
      (Contains-append_right
      (flat_map (body_clauses normal) (numbered_bodies normal)
      ++ flat_map (rule_clauses normal) normal.rules
      ++ map (support_clause normal) (atoms_of_normal normal)) (compute_clauses normal)
      clause here)

  -- the variable of each body is true exactly where the body holds
  body_read : (number : ℕ) (body : BodyOf) → slice_get normal.bodies number ≡ Some body
      → truth values (body_var normal number)
      ≡ body_holds (set_of normal values) (set_of normal values) body
  body_read number body here =
      ⊎_elim by_clauses (weights number body here) (cases_Bool (is_conjunctive body))
    where
      by_clauses : is_conjunctive body ≡ true
          → truth values (body_var normal number)
          ≡ body_holds (set_of normal values) (set_of normal values) body
      by_clauses conjunctive =
          let set = set_of normal values in
          let atoms : All (λ part. IsAtomOf normal part.lit.atom) body.parts =
          subst (λ (one : BodyOf). All (λ part. IsAtomOf normal part.lit.atom) one.parts)
          (get_or_from_slice_get normal.bodies number body body here)
          (in_range.parts number body (slice_get_within normal.bodies number body here)) in
          let clauses : (clause : List Lit)
          → Contains (all_clauses (body_var normal number) (literals_of body.parts)) clause
          → HoldsIn values clause =
          λ clause of_body. hold_body clause
          (flat_has (body_clauses normal) (numbered_bodies normal) (number, body) clause
          (numbered_has normal.bodies number body here)
          (subst
          (λ b. Contains
          (if b then all_clauses (body_var normal number) (literals_of body.parts) else [])
          clause) (sym conjunctive) of_body)) in
          same_truth (truth values (body_var normal number)) (body_holds set set body)
          (λ on. all-holds set set body conjunctive
          (count-literals normal values set atoms_read body.parts atoms
          (all_clauses-forth values (body_var normal number) (literals_of body.parts)
          clauses on)))
          (λ holds. all_clauses-back values (body_var normal number) (literals_of body.parts)
          clauses
          (literals-count normal values set atoms_read body.parts atoms
          (holds-all set set body conjunctive holds)))

  reads : Reads normal values (set_of normal values)
  reads = record { atoms = atoms_read; bodies = body_read }

  rules_kept : KeepsAllN normal (set_of normal values) (set_of normal values)
  rules_kept k d h = ⊎_elim
      (λ choice holds. choice-kept (get_or normal.rules k d).kind (set_of normal values)
      (get_or normal.rules k d).heads choice)
      (λ other. rule_clause-keeps normal values (set_of normal values) reads
      (get_or normal.rules k d) (in_range.numbers k d h) (in_range.heads k d h)
      (in_range.heads_fit k d h) other
      (hold_rule
      (negative (body_var normal (get_or normal.rules k d).body)
      ∷ map positive (get_or normal.rules k d).heads)
      (flat_has (rule_clauses normal) normal.rules (get_or normal.rules k d)
      (negative (body_var normal (get_or normal.rules k d).body)
      ∷ map positive (get_or normal.rules k d).heads) (Contains-get_or normal.rules k d h)
      (subst
      (λ b. Contains
      (if b then []
      else (negative (body_var normal (get_or normal.rules k d).body)
      ∷ map positive (get_or normal.rules k d).heads) ∷ [])
      (negative (body_var normal (get_or normal.rules k d).body)
      ∷ map positive (get_or normal.rules k d).heads))
      (sym other)
      (has_first
      (negative (body_var normal (get_or normal.rules k d).body)
      ∷ map positive (get_or normal.rules k d).heads) [])))))
      (cases_Bool (is_choice (get_or normal.rules k d).kind))

  compute_met : MeetsComputeN normal (set_of normal values)
  compute_met = record {
    must = λ k d h.
        let atom = get_or normal.must k d in
        let on =
        alone_true values (positive atom)
        (hold_compute (alone (positive atom))
        (Contains-append_left (map (λ one. alone (positive one)) normal.must)
        (map (λ one. alone (negative one)) normal.must_not) (alone (positive atom))
        (has_mapped (λ one. alone (positive one)) normal.must atom
        (Contains-get_or normal.must k d h)))) in
        sym (atoms_read atom (in_range.must k d h).last) ∙ sym (makes_true-positive values atom)
        ∙ on;
    must_not = λ k d h inside.
        let atom = get_or normal.must_not k d in
        let on =
        alone_true values (negative atom)
        (hold_compute (alone (negative atom))
        (Contains-append_right (map (λ one. alone (positive one)) normal.must)
        (map (λ one. alone (negative one)) normal.must_not) (alone (negative atom))
        (has_mapped (λ one. alone (negative one)) normal.must_not atom
        (Contains-get_or normal.must_not k d h)))) in
        both_ways (makes_true values (negative atom))
        (makes_true-negative values atom
        ∙ ap not (atoms_read atom (in_range.must_not k d h).last ∙ inside)) on;
  }

  set_over : IsSetOver normal.atoms (set_of normal values)
  set_over = record {
    positions = set_length;
    no_atom =
        slice_get-get_or (set_of normal values) 0 false (omega (arith, set_length))
        ∙ ap Some
        (get_or-take (normal.atoms + 1) values 0 false (omega arith)
        ∙ get_or_from_slice_get values 0 false false total.no_variable);
  }

  front_length : length (front_of normal values) ≡ normal.atoms + 1 + length normal.bodies
  front_length = length-take-le (normal.atoms + 1 + length normal.bodies) values total.variables

  -- what stands at a place of the front stands there in the extension
  extension_at : (k : ℕ) (d : Bool) → k < normal.atoms + 1 + length normal.bodies
      → get_or values k d
      ≡ get_or (extension normal (set_of normal values) (set_of normal values)) k d
  extension_at k d h =
      ⊎_elim
      (λ low. sym
      (get_or_append_left (set_of normal values)
      (map (body_holds (set_of normal values) (set_of normal values)) normal.bodies) d k
      (omega (arith, low, set_length)) ∙ get_or-take (normal.atoms + 1) values k d low))
      (λ high.
      let nobody : BodyOf = record { bound = 0; parts = [] } in
      let number = k - (normal.atoms + 1) in
      let within : number < length normal.bodies = omega (arith, h, high) in
      let place : length (set_of normal values) + number ≡ k = omega (arith, set_length, high) in
      let place' : k ≡ body_var normal number = omega (arith, high) in
      get_or_default values k d false (omega (arith, h, total.variables)) ∙ ap (truth values) place'
      ∙ body_read number (get_or normal.bodies number nobody)
      (slice_get-get_or normal.bodies number nobody within)
      ∙ sym
      (ap (λ j. get_or
      ((set_of normal values)
      ++ map (body_holds (set_of normal values) (set_of normal values)) normal.bodies) j
      d) (sym place)
      ∙ get_or-append-add (set_of normal values)
      (map (body_holds (set_of normal values) (set_of normal values))
      normal.bodies) number d
      ∙ get_or-map
      (body_holds (set_of normal values) (set_of normal values))
      normal.bodies number nobody d within))
      (cases_lt k (normal.atoms + 1))

  is_extension : front_of normal values
      ≡ extension normal (set_of normal values) (set_of normal values)
  is_extension =
      same_lists (front_of normal values)
      (extension normal (set_of normal values) (set_of normal values))
      (omega (
        arith,
        front_length,
        set_length,
        length-append (set_of normal values)
            (map (body_holds (set_of normal values) (set_of normal values)) normal.bodies),
        length-map normal.bodies
            (body_holds (set_of normal values) (set_of normal values)),
      ))
      (λ k d h. get_or-take (normal.atoms + 1 + length normal.bodies) values k d
      (omega (arith, h, front_length))
      ∙ extension_at k d (omega (arith, h, front_length)))

  is_model : IsModelOf normal values
  is_model =
      record { over = set_over; extends = is_extension; keeps = rules_kept; compute = compute_met }

-- the base clauses and the meaning of the weight bodies make a model
pub base_clauses-make_models : (normal : Normal) → IsNormal normal → MakeModels normal
base_clauses-make_models normal is values total meets weights =
    is_model normal (IsNormal-in_range normal is) values total meets weights
