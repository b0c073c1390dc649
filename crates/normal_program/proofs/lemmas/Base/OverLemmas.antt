-- The variables of the base clauses are those of atoms and bodies.
use Rattle.std.proofs.Common.{◌≡◌, ◌≤◌, ◌<◌, ℕ, Bool, true, false, not, List, [], ◌∷◌, ◌++◌, Some}
use Rattle.std.proofs.Common.{slice_get, length, get_or, map, filter, flat_map, All, subst, arith}
use Rattle.std.proofs.Common.{if◌then◌else◌}
use Rattle.std.proofs.lemmas.List.Elements.{All-nil, All-cons, All-head, All-tail, All-append}
use Rattle.std.proofs.lemmas.List.Elements.{All-map, All-filter, All-weaker, All-contains}
use Rattle.std.proofs.lemmas.List.Elements.{Contains-get_or}
use Rattle.std.proofs.lemmas.Option.{slice_get_within, get_or_from_slice_get}
use Rattle.clause_store.specs.declared.literal.Lit.{Lit}
use Rattle.clause_store.specs.Clause.{negation, IsOver, AreOver}
use Rattle.clause_store.proofs.LiteralLemmas.{variable-negation}
use Rattle.normal_program.specs.declared.normal.Part.{Part}
use Rattle.normal_program.specs.declared.normal.BodyOf.{BodyOf}
use Rattle.normal_program.specs.declared.normal.NormalRule.{NormalRule}
use Rattle.normal_program.specs.declared.normal.Normal.{Normal}
use Rattle.normal_program.specs.Body.{is_conjunctive}
use Rattle.normal_program.specs.Normal.{body_var, greatest_body_var}
use Rattle.normal_program.specs.Clauses.{positive, negative, literal_of, literals_of, each_once}
use Rattle.normal_program.specs.Clauses.{is_tautology, cleaned, all_clauses, numbered_bodies}
use Rattle.normal_program.specs.Clauses.{body_clauses, is_choice, rule_clauses, has_atom}
use Rattle.normal_program.specs.Clauses.{support_clause, atoms_of_normal, alone, compute_clauses}
use Rattle.normal_program.specs.Clauses.{base_clauses}
use Rattle.normal_program.specs.Limit.{IsNormal}
use Rattle.normal_program.specs.Loop.{IsAtomOf}
use Rattle.normal_program.specs.Range.{IsInRange}
use Rattle.normal_program.proofs.RangeLemmas.{IsNormal-in_range}
use Rattle.normal_program.proofs.lemmas.Base.CleanLemmas.{once_from}
use Rattle.normal_program.proofs.lemmas.Base.TruthLemmas.{variable-positive, variable-negative}
use Rattle.normal_program.proofs.lemmas.Base.TruthLemmas.{variable-literal_of}
use Rattle.normal_program.proofs.lemmas.Base.EntailedLemmas.{numbered_at, numbers_within}

-- all items of many lists are what those of each are
pub all_flat : {X Y : Type 0} (P : X → Type 0) (f : Y → List X) (ys : List Y)
    → All (λ y. All P (f y)) ys → All P (flat_map f ys)
all_flat P f [] all = All-nil P
all_flat P f (y ∷ ys) all =
    All-append P (f y) (flat_map f ys) (All-head (λ z. All P (f z)) y ys all)
    (all_flat P f ys (All-tail (λ z. All P (f z)) y ys all))

module _ (vars : ℕ) where
  -- cleaning brings in no literal
  once_over : (clause : List Lit) → All (IsOver vars) clause → All (IsOver vars) (each_once clause)
  once_over clause over k d h =
      All-contains (IsOver vars) clause (get_or (each_once clause) k d) over
      (once_from clause (get_or (each_once clause) k d) (Contains-get_or (each_once clause) k d h))

  -- merging literals and dropping tautologies adds no variable
  pub cleaned_over : (clauses : List (List Lit)) → AreOver vars clauses
      → AreOver vars (cleaned clauses)
  cleaned_over clauses over =
      All-filter (λ clause. not (is_tautology clause)) (All (IsOver vars)) (map each_once clauses)
      (All-map (All (IsOver vars)) each_once clauses
      (All-weaker (All (IsOver vars)) (λ clause. All (IsOver vars) (each_once clause)) once_over
      clauses over))

  negation_over : (lit : Lit) → IsOver vars lit → IsOver vars (negation lit)
  negation_over lit over = record {
    first = omega (arith, over.first, variable-negation lit);
    last = omega (arith, over.last, variable-negation lit);
  }

  -- both literals of a variable
  pub positive_over : (var : ℕ) → 1 ≤ var → var ≤ vars → IsOver vars (positive var)
  positive_over var first last = record {
    first = omega (arith, first, variable-positive var);
    last = omega (arith, last, variable-positive var);
  }

  -- so is the negative one
  pub negative_over : (var : ℕ) → 1 ≤ var → var ≤ vars → IsOver vars (negative var)
  negative_over var first last = record {
    first = omega (arith, first, variable-negative var);
    last = omega (arith, last, variable-negative var);
  }

  -- the clauses by which a variable means literals
  pub all_clauses_over : (var : ℕ) (lits : List Lit) → 1 ≤ var → var ≤ vars → All (IsOver vars) lits
      → AreOver vars (all_clauses var lits)
  all_clauses_over var lits first last over =
      All-append (All (IsOver vars)) (map (λ lit. negative var ∷ lit ∷ []) lits)
      ((positive var ∷ map negation lits) ∷ [])
      (All-map (All (IsOver vars)) (λ lit. negative var ∷ lit ∷ []) lits
      (All-weaker (IsOver vars) (λ lit. All (IsOver vars) (negative var ∷ lit ∷ []))
      (λ lit is. All-cons (IsOver vars) (negative var) (lit ∷ []) (negative_over var first last)
      (All-cons (IsOver vars) lit [] is (All-nil (IsOver vars))))
      lits over))
      (All-cons (All (IsOver vars)) (positive var ∷ map negation lits) []
      (All-cons (IsOver vars) (positive var) (map negation lits) (positive_over var first last)
      (All-map (IsOver vars) negation lits
      (All-weaker (IsOver vars) (λ lit. IsOver vars (negation lit)) negation_over lits over)))
      (All-nil (All (IsOver vars))))

module _ (normal : Normal) (in_range : IsInRange normal) where
  abbrev pub vars : ℕ
  vars = greatest_body_var normal

  -- an atom is over the variables
  pub atom_over : (atom : ℕ) → IsAtomOf normal atom → IsOver vars (positive atom)
  atom_over atom is = positive_over vars atom is.first (omega (arith, is.last))

  -- so is its negation
  pub denied_over : (atom : ℕ) → IsAtomOf normal atom → IsOver vars (negative atom)
  denied_over atom is = negative_over vars atom is.first (omega (arith, is.last))

  -- and the literal of a part of a body
  pub part_over : (part : Part) → IsAtomOf normal part.lit.atom → IsOver vars (literal_of part.lit)
  part_over part is = record {
    first = omega (arith, is.first, variable-literal_of part.lit);
    last = omega (arith, is.last, variable-literal_of part.lit);
  }

  -- of bodies
  body_clauses_over : (item : ℕ × BodyOf) → slice_get normal.bodies item.0 ≡ Some item.1
      → AreOver vars (body_clauses normal item)
  body_clauses_over item here = by (is_conjunctive item.1)
    where
      low : item.0 < length normal.bodies
      low = slice_get_within normal.bodies item.0 item.1 here

      atoms : All (λ part. IsAtomOf normal part.lit.atom) item.1.parts
      atoms =
          subst (λ (body : BodyOf). All (λ part. IsAtomOf normal part.lit.atom) body.parts)
          (get_or_from_slice_get normal.bodies item.0 item.1 item.1 here)
          (in_range.parts item.0 item.1 low)

      lits : All (IsOver vars) (literals_of item.1.parts)
      lits =
          All-map (IsOver vars) (λ (part : Part). literal_of part.lit) item.1.parts
          (All-weaker (λ part. IsAtomOf normal part.lit.atom)
          (λ part. IsOver vars (literal_of part.lit)) part_over item.1.parts atoms)

      by : (b : Bool) → AreOver vars
          (if b then all_clauses (body_var normal item.0) (literals_of item.1.parts) else [])
      by true =
          all_clauses_over vars (body_var normal item.0) (literals_of item.1.parts) (omega arith)
          (omega (arith, low)) lits
      by false = All-nil (All (IsOver vars))

  -- of rules
  rule_clauses_over : (rule : NormalRule) → rule.body < length normal.bodies
      → All (IsAtomOf normal) rule.heads
      → AreOver vars (rule_clauses normal rule)
  rule_clauses_over rule low heads = by (is_choice rule.kind)
    where
      by : (b : Bool) → AreOver vars
          (if b then [] else (negative (body_var normal rule.body) ∷ map positive rule.heads) ∷ [])
      by true = All-nil (All (IsOver vars))
      by false =
          All-cons (All (IsOver vars))
          (negative (body_var normal rule.body) ∷ map positive rule.heads) []
          (All-cons (IsOver vars) (negative (body_var normal rule.body)) (map positive rule.heads)
          (negative_over vars (body_var normal rule.body) (omega arith) (omega (arith, low)))
          (All-map (IsOver vars) positive rule.heads
          (All-weaker (IsAtomOf normal) (λ atom. IsOver vars (positive atom)) atom_over
          rule.heads heads)))
          (All-nil (All (IsOver vars)))

  -- of the support of an atom
  support_clause_over : (atom : ℕ) → IsAtomOf normal atom
      → All (IsOver vars) (support_clause normal atom)
  support_clause_over atom is =
      let rules = filter (λ (rule : NormalRule). has_atom rule.heads atom) normal.rules in
      All-cons (IsOver vars) (negative atom)
      (map (λ (rule : NormalRule). positive (body_var normal rule.body)) rules)
      (denied_over atom is)
      (All-map (IsOver vars) (λ (rule : NormalRule). positive (body_var normal rule.body)) rules
      (All-weaker (λ (rule : NormalRule). rule.body < length normal.bodies)
      (λ rule. IsOver vars (positive (body_var normal rule.body)))
      (λ rule low. positive_over vars (body_var normal rule.body) (omega arith)
      (omega (arith, low))) rules
      (All-filter (λ (rule : NormalRule). has_atom rule.heads atom)
      (λ rule. rule.body < length normal.bodies) normal.rules in_range.numbers)))

  -- of the compute statement
  pub alone_over : (f : ℕ → Lit) → ((atom : ℕ) → IsAtomOf normal atom → IsOver vars (f atom))
      → (atoms : List ℕ)
      → All (IsAtomOf normal) atoms → AreOver vars (map (λ atom. alone (f atom)) atoms)
  alone_over f over atoms all =
      All-map (All (IsOver vars)) (λ atom. alone (f atom)) atoms
      (All-weaker (IsAtomOf normal) (λ atom. All (IsOver vars) (alone (f atom)))
      (λ atom is. All-cons (IsOver vars) (f atom) [] (over atom is) (All-nil (IsOver vars))) atoms
      all)

  bodies_over : AreOver vars (flat_map (body_clauses normal) (numbered_bodies normal))
  bodies_over =
      all_flat (All (IsOver vars)) (body_clauses normal) (numbered_bodies normal)
      (λ k d h. let item = get_or (numbered_bodies normal) k d in
      body_clauses_over item
      (numbered_at normal.bodies item (Contains-get_or (numbered_bodies normal) k d h)))

  -- the clauses of the rules are over atoms and bodies
  pub rules_over : AreOver vars (flat_map (rule_clauses normal) normal.rules)
  rules_over =
      all_flat (All (IsOver vars)) (rule_clauses normal) normal.rules
      (λ k d h. rule_clauses_over (get_or normal.rules k d) (in_range.numbers k d h)
      (in_range.heads k d h))

  supports_over : AreOver vars (map (support_clause normal) (atoms_of_normal normal))
  supports_over =
      All-map (All (IsOver vars)) (support_clause normal) (atoms_of_normal normal)
      (λ k d h. let atom = get_or (atoms_of_normal normal) k d in
      let low =
      numbers_within 1 normal.atoms atom (Contains-get_or (atoms_of_normal normal) k d h) in
      support_clause_over atom (record { first = low.0; last = omega (arith, low.1) }))

  compute_over : AreOver vars (compute_clauses normal)
  compute_over =
      All-append (All (IsOver vars)) (map (λ atom. alone (positive atom)) normal.must)
      (map (λ atom. alone (negative atom)) normal.must_not)
      (alone_over positive atom_over normal.must in_range.must)
      (alone_over negative denied_over normal.must_not in_range.must_not)

  all_over : AreOver vars (base_clauses normal)
  all_over =
      let one = flat_map (body_clauses normal) (numbered_bodies normal) in
      let two = flat_map (rule_clauses normal) normal.rules in
      let three = map (support_clause normal) (atoms_of_normal normal) in
      let four = compute_clauses normal in
      let over = All (IsOver vars) in
      cleaned_over vars (one ++ two ++ three ++ four)
      (All-append over (one ++ two ++ three) four
      (All-append over (one ++ two) three (All-append over one two bodies_over rules_over)
      supports_over)
      compute_over)

-- the variables of the base clauses are those of atoms and bodies
pub base_clauses-over : (normal : Normal) → IsNormal normal
    → AreOver (greatest_body_var normal) (base_clauses normal)
base_clauses-over normal is = all_over normal (IsNormal-in_range normal is)
