-- The pair program is a program of the format.
use Rattle.std.proofs.Common.{◌≡◌, ◌<◌, ◌≤◌, ◌+◌, ◌*◌, ℕ, zero, suc}
use Rattle.std.proofs.Common.{if◌then◌else◌, List, [], ◌∷◌, ◌++◌, Some, slice_get, length, get_or}
use Rattle.std.proofs.Common.{map}
use Rattle.std.proofs.Common.{flat_map, All, AllPairs, refl, sym, ap, subst, ◌∙◌}
use Rattle.std.proofs.Common.{arith, ⊎_elim, length-append}
use Rattle.std.proofs.lemmas.Bool.{cases_Bool}
use Rattle.std.proofs.lemmas.List.{length-map}
use Rattle.std.proofs.lemmas.List.Elements.{All-nil, All-cons, All-head, All-tail, All-append}
use Rattle.std.proofs.lemmas.List.Elements.{All-map, All-weaker}
use Rattle.std.proofs.lemmas.List.Concat.{length-flat_map}
use Rattle.std.proofs.lemmas.Option.{slice_get_within, get_or_from_slice_get}
use Rattle.ground_program.specs.declared.program.Rule.{Rule}
use Rattle.ground_program.specs.Program.{IsNumber, IsRule, IsProgram, atoms_of_rule}
use Rattle.ground_program.specs.Program.{IsName, greatest}
use Rattle.normal_program.specs.declared.normal.Part.{Part}
use Rattle.normal_program.specs.declared.normal.BodyOf.{BodyOf}
use Rattle.normal_program.specs.declared.normal.NormalRule.{NormalRule}
use Rattle.normal_program.specs.declared.normal.Normal.{Normal}
use Rattle.normal_program.specs.Body.{rank}
use Rattle.normal_program.specs.Normal.{StandsFor}
use Rattle.normal_program.specs.Clauses.{is_choice}
use Rattle.normal_program.specs.Limit.{IsNormal}
use Rattle.normal_program.specs.Loop.{IsAtomOf}
use Rattle.normal_program.specs.Range.{IsInRange}
use Rattle.pair_program.specs.Pairs.{rules_for, pair_rules, FitsFormat}
use Rattle.pair_program.specs.Rules.{part_atom, alone_atom, body_atom, last_atom, disjunction}
use Rattle.pair_program.specs.Rules.{choice_rule, body_rules, rules_of_rule, rules_of_atom}
use Rattle.pair_program.specs.Rules.{body_rule}
use Rattle.pair_program.specs.Rules.{atom_rules, count_up, free_rule, proper_rule, rules_of}
use Rattle.pair_program.specs.Rules.{program_of}
use Rattle.ground_program.proofs.ValidityLemmas.{greatest-append}
use Rattle.item_list.proofs.ListLemmas.{AllZip-All, AllZip-flip, AllZip-length, sum_by-agree}
use Rattle.normal_program.proofs.UniqueLemmas.{body_at}
use Rattle.pair_program.proofs.GroupLemmas.{all_three, All-count_up, length-count_up, from_groups}
use Rattle.pair_program.proofs.RuleLemmas.{IsOneOf, IsRuleOf, disjunction_fits, free_fits}
use Rattle.pair_program.proofs.RuleLemmas.{body_fits}
use Rattle.pair_program.proofs.RuleLemmas.{few_parts}

-- what a body of a normal form has from its program
record HasSource (body : BodyOf) : Type 0 where
  bound : IsNumber body.bound
  order : AllPairs (λ earlier later. rank earlier.lit < rank later.lit) body.parts

module _ (normal : Normal) (is : IsNormal normal) where
  body_source : (number : ℕ) (body : BodyOf) → slice_get normal.bodies number ≡ Some body
      → HasSource body
  body_source number body here =
      let within : number < length normal.bodies =
      slice_get_within normal.bodies number body here in
      let some = is.form.rules.used number within in
      let blank : Rule = record {
        kind = some.1.kind;
        heads = some.1.heads;
        bound = 0;
        body = [];
      } in
      let found =
      body_at normal.bodies normal.rules is.source.rules is.form.rules some.0 some.1 blank some.2 in
      let at : (get_or normal.rules some.0 some.1).body ≡ number =
      ap (λ (one : NormalRule). one.body) some.3 ∙ some.4 in
      let same : found.0 ≡ body =
      (let e : Some found.0 ≡ Some body =
      sym found.1 ∙ ap (slice_get normal.bodies) at ∙ here in cc) in
      let source = get_or is.source.rules some.0 blank in
      let in_source : some.0 < length is.source.rules =
      omega (
        arith,
        some.2,
        AllZip-length (StandsFor normal.bodies) normal.rules is.source.rules is.form.rules.each,
      ) in
      let rule : IsRule source = is.valid.rules some.0 blank in_source in
      let bound : found.0.bound ≡ source.bound = found.2.bound in
      let has_source : HasSource found.0 = record {
        bound = omega (arith, bound, rule.bound_number);
        order = found.2.parts.order;
      } in
      subst HasSource same has_source

  -- the heads of rules are few
  few_heads : All (λ one. IsNumber (length one.heads)) normal.rules
  few_heads =
      AllZip-All (λ rule one. StandsFor normal.bodies one rule) IsRule
      (λ one. IsNumber (length one.heads))
      (λ rule one stands fits. omega (arith, fits.few_heads, ap length stands.heads))
      is.source.rules normal.rules
      (AllZip-flip (StandsFor normal.bodies) normal.rules is.source.rules is.form.rules.each)
      is.valid.rules

module _ (normal : Normal) (is : IsNormal normal) (range : IsInRange normal)
    (fits : FitsFormat normal) where
  abbrev most : ℕ
  most = last_atom normal.atoms (length normal.bodies)

  most_number : IsNumber (last_atom normal.atoms (length normal.bodies))
  most_number = omega (arith, range.few)

  one_of : (atom : ℕ) → 1 ≤ atom → atom ≤ most → IsOneOf most atom
  one_of atom first last = record { first = first; last = last }

  body_rule_fits : (number : ℕ) (body : BodyOf) → slice_get normal.bodies number ≡ Some body
      → IsRuleOf most (body_rule normal.atoms number body)
  body_rule_fits number body here =
      let within : number < length normal.bodies =
      slice_get_within normal.bodies number body here in
      let source = body_source normal is number body here in
      let same : get_or normal.bodies number body ≡ body =
      get_or_from_slice_get normal.bodies number body body here in
      let in_atoms : All (λ part. IsOneOf normal.atoms part.lit.atom) body.parts =
      All-weaker (λ part. IsAtomOf normal part.lit.atom)
      (λ part. IsOneOf normal.atoms part.lit.atom)
      (λ part atom. record { first = atom.first; last = atom.last }) body.parts
      (subst (λ (it : BodyOf). All (λ part. IsAtomOf normal part.lit.atom) it.parts) same
      (range.parts number body within)) in
      let few : 0 + length body.parts ≤ 2 * normal.atoms + 2 =
      few_parts 0 (2 * normal.atoms + 2) body.parts (omega arith) source.order
      (λ k d inside. omega arith)
      (λ k d inside. rank_below (get_or body.parts k d) (in_atoms k d inside)) in
      body_fits normal.atoms (length normal.bodies) number body within source.bound
      (omega (arith, few, range.few)) in_atoms
      (subst (λ (it : BodyOf). All (λ part. IsNumber part.weight) it.parts) same
      (fits.weights number body within))
    where
      rank_below : (part : Part) → IsOneOf normal.atoms part.lit.atom
          → rank part.lit < 2 * normal.atoms + 2
      rank_below part one = grind (arith, one.last)

  all_one : (atom : ℕ) → 1 ≤ atom → atom ≤ most → All (IsOneOf most) (atom ∷ [])
  all_one atom first last =
      All-cons (IsOneOf most) atom [] (one_of atom first last) (All-nil (IsOneOf most))

  all_two : (one two : ℕ) → 1 ≤ one → one ≤ most → 1 ≤ two → two ≤ most
      → All (IsOneOf most) (one ∷ two ∷ [])
  all_two one two first last first2 last2 =
      All-cons (IsOneOf most) one (two ∷ []) (one_of one first last) (all_one two first2 last2)

  atom_rules_fit : (atom : ℕ) → 1 ≤ atom → atom ≤ normal.atoms
      → All (IsRuleOf most) (rules_of_atom normal.atoms (length normal.bodies) atom)
  atom_rules_fit atom low last =
      let in_part = part_atom normal.atoms atom in
      let alone = alone_atom normal.atoms atom in
      all_three (IsRuleOf most) (disjunction (atom ∷ []) (in_part ∷ []))
      (disjunction (atom ∷ []) (alone ∷ [])) (disjunction (most ∷ []) (in_part ∷ alone ∷ []))
      (disjunction_fits most (atom ∷ []) (in_part ∷ []) (omega arith) (omega arith)
      (all_one atom low (omega (arith, last)))
      (all_one in_part (omega (arith, low)) (omega (arith, last))))
      (disjunction_fits most (atom ∷ []) (alone ∷ []) (omega arith) (omega arith)
      (all_one atom low (omega (arith, last)))
      (all_one alone (omega (arith, low)) (omega (arith, last))))
      (disjunction_fits most (most ∷ []) (in_part ∷ alone ∷ []) (omega arith) (omega arith)
      (all_one most (omega arith) (omega arith))
      (all_two in_part alone (omega (arith, low)) (omega (arith, last)) (omega (arith, low))
      (omega (arith, last))))

  proper_fits : IsRuleOf most (proper_rule normal.atoms)
  proper_fits =
      disjunction_fits most (count_up (2 * normal.atoms + 1) normal.atoms) []
      (omega (arith, length-count_up (2 * normal.atoms + 1) normal.atoms, range.few)) (omega arith)
      (All-count_up (IsOneOf most) (2 * normal.atoms + 1) normal.atoms
      (λ number less. one_of (2 * normal.atoms + 1 + number) (omega arith) (omega (arith, less))))
      (All-nil (IsOneOf most))

  rule_rules_fit : (rule : NormalRule) → rule.body < length normal.bodies
      → All (IsAtomOf normal) rule.heads → IsNumber (length rule.heads)
      → All (IsRuleOf most) (rules_of_rule normal.atoms rule)
  rule_rules_fit rule within atoms few =
      let body = body_atom normal.atoms rule.body in
      let choices = map (choice_rule normal.atoms body) rule.heads in
      let one = disjunction (map (part_atom normal.atoms) rule.heads) (body ∷ []) in
      ⊎_elim
      (λ choice.
      subst (λ b. All (IsRuleOf most) (if b then choices else one ∷ [])) (sym choice)
      (All-map (IsRuleOf most) (choice_rule normal.atoms body) rule.heads
      (λ k d inside.
      let head = get_or rule.heads k d in
      let atom : IsAtomOf normal head = atoms k d inside in
      disjunction_fits most (part_atom normal.atoms head ∷ []) (body ∷ head ∷ []) (omega arith)
      (omega arith)
      (all_one (part_atom normal.atoms head) (omega (arith, atom.first)) (omega (arith, atom.last)))
      (all_two body head (omega arith) (omega (arith, within)) atom.first
      (omega (arith, atom.last))))))
      (λ other.
      subst (λ b. All (IsRuleOf most) (if b then choices else one ∷ [])) (sym other)
      (All-cons (IsRuleOf most) one []
      (disjunction_fits most (map (part_atom normal.atoms) rule.heads) (body ∷ [])
      (omega (arith, few, length-map rule.heads (part_atom normal.atoms))) (omega arith)
      (All-map (IsOneOf most) (part_atom normal.atoms) rule.heads
      (λ k d inside.
      let atom : IsAtomOf normal (get_or rule.heads k d) = atoms k d inside in
      one_of (part_atom normal.atoms (get_or rule.heads k d)) (omega (arith, atom.first))
      (omega (arith, atom.last))))
      (all_one body (omega arith) (omega (arith, within))))
      (All-nil (IsRuleOf most))))
      (cases_Bool (is_choice rule.kind))

  all_fit : All (IsRuleOf most) (rules_of normal)
  all_fit = from_groups (IsRuleOf most) normal (record {
    free = free_fits normal.atoms (length normal.bodies) most_number;
    of_body = body_rule_fits;
    of_rule =
        λ k d within. rule_rules_fit (get_or normal.rules k d) (range.numbers k d within)
        (range.heads k d within) (few_heads normal is k d within);
    of_atom = atom_rules_fit;
    proper = proper_fits;
  })

-- the numbers of rules
length-bodies : (atoms first : ℕ) (bodies : List BodyOf)
    → length (body_rules atoms first bodies) ≡ length bodies
length-bodies atoms first [] = refl
length-bodies atoms first (body ∷ bodies) =
    omega (arith, length-bodies atoms (first + 1) bodies)

length-atoms : (atoms bodies count : ℕ) → length (atom_rules atoms bodies count) ≡ 3 * count
length-atoms atoms bodies zero = refl
length-atoms atoms bodies (suc count) =
    omega (
      arith,
      length-append (atom_rules atoms bodies count) (rules_of_atom atoms bodies (suc count)),
      length-atoms atoms bodies count,
    )

length-rule : (atoms : ℕ) (rule : NormalRule)
    → length (rules_of_rule atoms rule) ≡ rules_for rule
length-rule atoms rule =
    let body = body_atom atoms rule.body in
    let choices = map (choice_rule atoms body) rule.heads in
    let one = disjunction (map (part_atom atoms) rule.heads) (body ∷ []) in
    ⊎_elim
    (λ choice.
    ap (λ b. length (if b then choices else one ∷ [])) choice
    ∙ length-map rule.heads (choice_rule atoms body)
    ∙ sym (ap (λ b. if b then length rule.heads else 1) choice))
    (λ other.
    ap (λ b. length (if b then choices else one ∷ [])) other
    ∙ sym (ap (λ b. if b then length rule.heads else 1) other))
    (cases_Bool (is_choice rule.kind))

length-rules : (normal : Normal) → length (rules_of normal) ≡ pair_rules normal
length-rules normal =
    let free = free_rule normal.atoms (length normal.bodies) ∷ [] in
    let bodies = body_rules normal.atoms 0 normal.bodies in
    let heads = flat_map (rules_of_rule normal.atoms) normal.rules in
    let atoms = atom_rules normal.atoms (length normal.bodies) normal.atoms in
    omega (
      arith,
      length-append (free ++ bodies ++ heads ++ atoms) (proper_rule normal.atoms ∷ []),
      length-append (free ++ bodies ++ heads) atoms,
      length-append (free ++ bodies) heads,
      length-append free bodies,
      length-bodies normal.atoms 0 normal.bodies,
      length-atoms normal.atoms (length normal.bodies) normal.atoms,
      length-flat_map (rules_of_rule normal.atoms) normal.rules,
      sum_by-agree (λ rule. length (rules_of_rule normal.atoms rule)) rules_for normal.rules
          (λ k d within. length-rule normal.atoms (get_or normal.rules k d)),
    )

-- the greatest of some numbers is no more than a bound of all
greatest_at_most : (most : ℕ) (xs : List ℕ) → All (IsOneOf most) xs → greatest xs ≤ most
greatest_at_most most [] all = omega arith
greatest_at_most most (x ∷ xs) all =
    let here = All-head (IsOneOf most) x xs all in
    omega (
      arith,
      here.last,
      greatest_at_most most xs (All-tail (IsOneOf most) x xs all),
    )

-- the atoms of rules
rules_atoms : (most : ℕ) (rules : List Rule) → All (IsRuleOf most) rules
    → All (IsOneOf most) (flat_map atoms_of_rule rules)
rules_atoms most [] all = All-nil (IsOneOf most)
rules_atoms most (rule ∷ rules) all =
    let here = All-head (IsRuleOf most) rule rules all in
    All-append (IsOneOf most) (atoms_of_rule rule) (flat_map atoms_of_rule rules) here.atoms
    (rules_atoms most rules (All-tail (IsRuleOf most) rule rules all))

-- the pair program of a normal form is a program
pub program_fits : (normal : Normal) → IsNormal normal → IsInRange normal → FitsFormat normal
    → IsProgram (program_of normal)
program_fits normal is range fits =
    let most = last_atom normal.atoms (length normal.bodies) in
    let rules = all_fit normal is range fits in
    let of_rules = flat_map atoms_of_rule (rules_of normal) in
    let in_rules = rules_atoms most (rules_of normal) rules in
    let front : List ℕ = of_rules ++ [] ++ [] in
    let in_front : All (IsOneOf most) front =
    All-append (IsOneOf most) (of_rules ++ []) []
    (All-append (IsOneOf most) of_rules [] in_rules (All-nil (IsOneOf most)))
    (All-nil (IsOneOf most)) in
    let last : IsOneOf most most = record { first = omega arith; last = omega arith } in
    let in_all : All (IsOneOf most) (front ++ most ∷ []) =
    All-append (IsOneOf most) front (most ∷ []) in_front
    (All-cons (IsOneOf most) most [] last (All-nil (IsOneOf most))) in
    record {
      atoms =
          omega (
            arith,
            greatest-append front (most ∷ []),
            greatest_at_most most front in_front,
          );
      each_atom =
          λ k d within. let one = in_all k d within in
          (one.first, omega (arith, one.last, most_number normal is range fits));
      rules = All-weaker (IsRuleOf most) IsRule (λ rule it. it.fits) (rules_of normal) rules;
      names = All-nil (λ named. IsName named.name);
      models = omega arith;
      few_rules = omega (arith, length-rules normal, fits.few_rules);
      few_names = omega arith;
      few_must = omega arith;
      few_must_not = omega arith;
    }
