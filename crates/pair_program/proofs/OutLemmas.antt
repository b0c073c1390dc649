-- A model of the pair program is a pair.
use Rattle.std.proofs.Common.{◌≡◌, ◌≢◌, ◌<◌, ◌≤◌, ◌+◌, ◌*◌, ℕ, zero, suc, Bool, true}
use Rattle.std.proofs.Common.{false, List, [], ◌∷◌, Some, slice_get, length, get_or, take, drop}
use Rattle.std.proofs.Common.{map}
use Rattle.std.proofs.Common.{All, Any, refl, sym, ap, subst, ◌∙◌, arith, ⊎_elim}
use Rattle.std.proofs.Common.{get_or-drop, get_or-take, length-drop, length-take-le}
use Rattle.std.proofs.Common.{true≢false, if◌then◌else◌}
use Rattle.std.proofs.lemmas.Bool.{cases_Bool, cases_lt}
use Rattle.std.proofs.lemmas.List.{get_or_past, get_or_default, get_or-map, length-map}
use Rattle.std.proofs.lemmas.List.Elements.{All-nil, All-cons}
use Rattle.std.proofs.lemmas.Option.{slice_get_within, get_or_from_slice_get}
use Rattle.ground_program.specs.declared.program.Kind.{Kind}
use Rattle.ground_program.specs.declared.program.Kind.TheVariants.{Basic, Constraint, Choice}
use Rattle.ground_program.specs.declared.program.Kind.TheVariants.{Weight, Disjunctive}
use Rattle.ground_program.specs.declared.program.Rule.{Rule}
use Rattle.ground_program.specs.Program.{HeadsFit}
use Rattle.ground_program.specs.Meaning.{has, IsIn, Keeps, HeadHolds}
use Rattle.normal_program.specs.declared.normal.BodyOf.{BodyOf}
use Rattle.normal_program.specs.declared.normal.NormalRule.{NormalRule}
use Rattle.normal_program.specs.declared.normal.Normal.{Normal}
use Rattle.normal_program.specs.Body.{BodyHoldsN}
use Rattle.normal_program.specs.Normal.{KeepsAllN}
use Rattle.normal_program.specs.Clauses.{is_choice}
use Rattle.normal_program.specs.Loop.{IsAtomOf}
use Rattle.normal_program.specs.Range.{IsInRange}
use Rattle.pair_program.specs.Pairs.{whole_in, part_in, IsPairOf}
use Rattle.pair_program.specs.Rules.{part_atom, alone_atom, body_atom, last_atom, disjunction}
use Rattle.pair_program.specs.Rules.{choice_rule, rules_of_rule, count_up}
use Rattle.item_list.proofs.ListLemmas.{IsSomeAnd-found}
use Rattle.pair_program.proofs.GroupLemmas.{any_one, three_of, found_count_up, AllGroups}
use Rattle.pair_program.proofs.TruthLemmas.{Shows, some_head, body_reaches}

-- the atoms of the literals of a body are in range
pub in_range : (normal : Normal) → IsInRange normal → (number : ℕ) (body : BodyOf)
    → slice_get normal.bodies number ≡ Some body
    → All (λ one. (1 ≤ one.lit.atom) × (one.lit.atom ≤ normal.atoms)) body.parts
in_range normal range number body here k d within =
    let of_body : All (λ one. IsAtomOf normal one.lit.atom) body.parts =
    subst (λ (it : BodyOf). All (λ one. IsAtomOf normal one.lit.atom) it.parts)
    (get_or_from_slice_get normal.bodies number body body here)
    (range.parts number body (slice_get_within normal.bodies number body here)) in
    let atom = of_body k d within in (atom.first, atom.last)

-- a choice rule is one
pub choice_is : (kind : Kind) → is_choice kind ≡ true → kind ≡ Choice
choice_is Basic choice = cc
choice_is Constraint choice = cc
choice_is Choice choice = refl
choice_is Weight choice = cc
choice_is Disjunctive choice = cc

-- the first place of a front
front_first : (set : List Bool) (count : ℕ) → slice_get set 0 ≡ Some false
    → slice_get (take (count + 1) set) 0 ≡ Some false
front_first set count first =
    subst (λ n. slice_get (take n set) 0 ≡ Some false) (suc_is count) (at_suc set count first)
  where
    at_suc : (set : List Bool) (count : ℕ) → slice_get set 0 ≡ Some false
        → slice_get (take (suc count) set) 0 ≡ Some false
    at_suc [] count first = first
    at_suc (bit ∷ set) count first = first

    suc_is : (count : ℕ) → suc count ≡ count + 1
    suc_is count = omega arith

-- a true atom stands at a place of the set
pub place_of : (set : List Bool) (atom : ℕ) → IsIn set atom → atom < length set
place_of set atom here = ⊎_elim (λ low. low)
    (λ high. absurd (true≢false (sym here ∙ get_or_past set atom false high)))
    (cases_lt atom (length set))

-- some of mapped atoms is in a set
pub Any-map : (P : ℕ → Type 0) (f : ℕ → ℕ) (xs : List ℕ) → Any P (map f xs)
    → Any (λ x. P (f x)) xs
Any-map P f xs some =
    let within : some.0 < length xs = omega (arith, some.2, length-map xs f) in
    let at = get_or xs some.0 0 in
    let is : f at ≡ some.1 = sym (get_or-map f xs some.0 0 some.1 within) ∙ some.3 in
    (some.0, at, within, get_or_default xs some.0 at 0 within, subst P (sym is) some.4)

-- one head
all_from_some : (set : List Bool) (heads : List ℕ) → length heads ≡ 1 → Any (IsIn set) heads
    → All (IsIn set) heads
all_from_some set [] one some = absurd (omega (arith, one))
all_from_some set (head ∷ []) one some =
    All-cons (IsIn set) head [] (any_one (IsIn set) head some) (All-nil (IsIn set))
all_from_some set (head ∷ next ∷ rest) one some = absurd (omega (arith, one))

-- where some head holds the heads of a rule that is no choice rule hold
head_from_some : (kind : Kind) (by set : List Bool) (heads : List ℕ) → is_choice kind ≡ false
    → HeadsFit kind heads → Any (IsIn set) heads → HeadHolds kind by set heads
head_from_some Basic by set heads other fits some = all_from_some set heads fits some
head_from_some Constraint by set heads other fits some = all_from_some set heads fits some
head_from_some Choice by set heads other fits some = cc
head_from_some Weight by set heads other fits some = all_from_some set heads fits some
head_from_some Disjunctive by set heads other fits some = some

module _ (normal : Normal) (range : IsInRange normal) (all : List Bool)
    (long : normal.atoms + normal.atoms < length all) (first : slice_get all 0 ≡ Some false)
    (groups : AllGroups (Keeps all all) normal)
    (no_last : ¬ IsIn all (last_atom normal.atoms (length normal.bodies))) where
  in_whole : (atom : ℕ) → atom ≤ normal.atoms → has all atom ≡ has (whole_in normal all) atom
  in_whole atom last = sym (get_or-take (normal.atoms + 1) all atom false (omega (arith, last)))

  in_part : (atom : ℕ) → 1 ≤ atom → atom ≤ normal.atoms
      → has all (part_atom normal.atoms atom) ≡ has (part_in normal all) atom
  in_part zero low last = absurd (omega (arith, low))
  in_part (suc at) low last =
      let place : normal.atoms + suc at ≡ normal.atoms + 1 + at = omega arith in
      ap (λ n. get_or all n false) place
      ∙ sym
      (get_or-take normal.atoms (drop (normal.atoms + 1) all) at false (omega (arith, last))
      ∙ get_or-drop (normal.atoms + 1) all at false)

  shows : Shows normal.atoms (whole_in normal all) (part_in normal all) all
  shows = record { of_whole = in_whole; of_part = in_part }

  length-whole : length (whole_in normal all) ≡ normal.atoms + 1
  length-whole = length-take-le (normal.atoms + 1) all (omega (arith, long))

  length-part : length (part_in normal all) ≡ normal.atoms + 1
  length-part =
      let rest : length (take normal.atoms (drop (normal.atoms + 1) all)) ≡ normal.atoms =
      length-take-le normal.atoms (drop (normal.atoms + 1) all)
      (omega (arith, long, length-drop (normal.atoms + 1) all)) in
      omega (arith, rest)

  -- the rules of an atom
  rules_at : (atom : ℕ) → 1 ≤ atom → atom ≤ normal.atoms
      → Keeps all all (disjunction (atom ∷ []) (part_atom normal.atoms atom ∷ []))
      × Keeps all all (disjunction (atom ∷ []) (alone_atom normal.atoms atom ∷ []))
      × Keeps all all
      (disjunction (last_atom normal.atoms (length normal.bodies) ∷ [])
      (part_atom normal.atoms atom ∷ alone_atom normal.atoms atom ∷ []))
  rules_at atom low last =
      three_of (Keeps all all) (disjunction (atom ∷ []) (part_atom normal.atoms atom ∷ []))
      (disjunction (atom ∷ []) (alone_atom normal.atoms atom ∷ []))
      (disjunction (last_atom normal.atoms (length normal.bodies) ∷ [])
      (part_atom normal.atoms atom ∷ alone_atom normal.atoms atom ∷ []))
      (groups.of_atom atom low last)

  -- what is in the part or in the whole alone is in the whole
  atom_within : (atom : ℕ) → 1 ≤ atom → atom ≤ normal.atoms
      → IsIn all (part_atom normal.atoms atom) → IsIn all atom
  atom_within atom low last here =
      any_one (IsIn all) atom
      (some_head all (atom ∷ []) (part_atom normal.atoms atom ∷ []) (rules_at atom low last).0
      (All-cons (IsIn all) (part_atom normal.atoms atom) [] here (All-nil (IsIn all))))

  alone_within : (atom : ℕ) → 1 ≤ atom → atom ≤ normal.atoms
      → IsIn all (alone_atom normal.atoms atom) → IsIn all atom
  alone_within atom low last here =
      any_one (IsIn all) atom
      (some_head all (atom ∷ []) (alone_atom normal.atoms atom ∷ []) (rules_at atom low last).1
      (All-cons (IsIn all) (alone_atom normal.atoms atom) [] here (All-nil (IsIn all))))

  -- and nothing is in both
  not_both : (atom : ℕ) → 1 ≤ atom → atom ≤ normal.atoms
      → IsIn all (part_atom normal.atoms atom) → IsIn all (alone_atom normal.atoms atom) → ⊥
  not_both atom low last in_it alone =
      no_last
      (any_one (IsIn all) (last_atom normal.atoms (length normal.bodies))
      (some_head all (last_atom normal.atoms (length normal.bodies) ∷ [])
      (part_atom normal.atoms atom ∷ alone_atom normal.atoms atom ∷ []) (rules_at atom low last).2
      (All-cons (IsIn all) (part_atom normal.atoms atom) (alone_atom normal.atoms atom ∷ []) in_it
      (All-cons (IsIn all) (alone_atom normal.atoms atom) [] alone (All-nil (IsIn all))))))

  some_alone : (atom : ℕ) × (1 ≤ atom) × (atom ≤ normal.atoms)
      × IsIn all (alone_atom normal.atoms atom)
  some_alone =
      let found =
      found_count_up (IsIn all) (2 * normal.atoms + 1) normal.atoms
      (some_head all (count_up (2 * normal.atoms + 1) normal.atoms) [] groups.proper
      (All-nil (IsIn all))) in
      let place : 2 * normal.atoms + 1 + found.0 ≡ 2 * normal.atoms + (found.0 + 1) =
      omega arith in (
        found.0 + 1,
        omega arith,
        omega (arith, found.1),
        subst (IsIn all) place found.2,
      )

  inside : (atom : ℕ) → IsIn (part_in normal all) atom → IsIn (whole_in normal all) atom
  inside zero here = absurd (true≢false (sym here))
  inside (suc at) here =
      let last : suc at ≤ normal.atoms =
      omega (arith, place_of (part_in normal all) (suc at) here, length-part) in
      sym (in_whole (suc at) last)
      ∙ atom_within (suc at) (omega arith) last (in_part (suc at) (omega arith) last ∙ here)

  differ : part_in normal all ≢ whole_in normal all
  differ same =
      let (atom, low, last, alone) = some_alone in
      not_both atom low last
      (in_part atom low last ∙ ap (λ set. has set atom) same ∙ sym (in_whole atom last)
      ∙ alone_within atom low last alone)
      alone

  -- the rule of a body that holds has its atom true
  body_in : (rule : NormalRule) (body : BodyOf) → slice_get normal.bodies rule.body ≡ Some body
      → BodyHoldsN (whole_in normal all) (part_in normal all) body
      → IsIn all (body_atom normal.atoms rule.body)
  body_in rule body here =
      body_reaches normal.atoms (whole_in normal all) (part_in normal all) all shows rule.body body
      (in_range normal range rule.body body here) (groups.of_body rule.body body here)

  -- a head of a rule in the part
  head_in : (heads : List ℕ) → All (IsAtomOf normal) heads
      → Any (λ head. IsIn all (part_atom normal.atoms head)) heads
      → Any (IsIn (part_in normal all)) heads
  head_in heads atoms (k, head, within, is, here) =
      let atom : IsAtomOf normal head = subst (IsAtomOf normal) is (atoms k head within) in
      (k, head, within, is, sym (in_part head atom.first atom.last) ∙ here)

  keeps_choice : (rule : NormalRule) → All (IsAtomOf normal) rule.heads
      → All (Keeps all all)
      (map (choice_rule normal.atoms (body_atom normal.atoms rule.body)) rule.heads)
      → IsIn all (body_atom normal.atoms rule.body)
      → All
      (λ head. IsIn (whole_in normal all) head → IsIn (part_in normal all) head) rule.heads
  keeps_choice rule atoms keeps body k d within here =
      let head = get_or rule.heads k d in
      let atom : IsAtomOf normal head = atoms k d within in
      let clause : Rule = choice_rule normal.atoms (body_atom normal.atoms rule.body) head in
      let kept : Keeps all all clause =
      subst (Keeps all all)
      (get_or-map (choice_rule normal.atoms (body_atom normal.atoms rule.body)) rule.heads k d
      clause within)
      (keeps k clause
      (omega (
        arith,
        within,
        length-map rule.heads (choice_rule normal.atoms (body_atom normal.atoms rule.body)),
      ))) in
      sym (in_part head atom.first atom.last)
      ∙ any_one (IsIn all) (part_atom normal.atoms head)
      (some_head all (part_atom normal.atoms head ∷ [])
      (body_atom normal.atoms rule.body ∷ head ∷ []) kept
      (All-cons (IsIn all) (body_atom normal.atoms rule.body) (head ∷ []) body
      (All-cons (IsIn all) head [] (in_whole head atom.last ∙ here) (All-nil (IsIn all)))))

  keeps_heads : (rule : NormalRule) → All (IsAtomOf normal) rule.heads
      → HeadsFit rule.kind rule.heads
      → All (Keeps all all) (rules_of_rule normal.atoms rule)
      → IsIn all (body_atom normal.atoms rule.body)
      → HeadHolds rule.kind (whole_in normal all) (part_in normal all) rule.heads
  keeps_heads rule atoms fits keeps body = ⊎_elim
      (λ choice.
      let clauses : All (Keeps all all)
      (map (choice_rule normal.atoms (body_atom normal.atoms rule.body)) rule.heads) =
      subst (λ b. All (Keeps all all)
      (if b then map (choice_rule normal.atoms (body_atom normal.atoms rule.body)) rule.heads
      else disjunction (map (part_atom normal.atoms) rule.heads)
      (body_atom normal.atoms rule.body ∷ []) ∷ [])) choice keeps in
      subst (λ kind. HeadHolds kind (whole_in normal all) (part_in normal all) rule.heads)
      (sym (choice_is rule.kind choice)) (keeps_choice rule atoms clauses body))
      (λ other.
      let clauses : All (Keeps all all)
      (disjunction (map (part_atom normal.atoms) rule.heads)
      (body_atom normal.atoms rule.body ∷ []) ∷ []) =
      subst (λ b. All (Keeps all all)
      (if b then map (choice_rule normal.atoms (body_atom normal.atoms rule.body)) rule.heads
      else disjunction (map (part_atom normal.atoms) rule.heads)
      (body_atom normal.atoms rule.body ∷ []) ∷ [])) other keeps in
      head_from_some rule.kind (whole_in normal all) (part_in normal all) rule.heads other fits
      (head_in rule.heads atoms
      (Any-map (IsIn all) (part_atom normal.atoms) rule.heads
      (some_head all (map (part_atom normal.atoms) rule.heads)
      (body_atom normal.atoms rule.body ∷ [])
      (clauses 0 (disjunction (map (part_atom normal.atoms) rule.heads)
      (body_atom normal.atoms rule.body ∷ [])) (omega arith))
      (All-cons (IsIn all) (body_atom normal.atoms rule.body) [] body (All-nil (IsIn all)))))))
      (cases_Bool (is_choice rule.kind))

  keeps_part : KeepsAllN normal (whole_in normal all) (part_in normal all)
  keeps_part k rule within reached =
      let one = get_or normal.rules k rule in
      let found =
      IsSomeAnd-found (BodyHoldsN (whole_in normal all) (part_in normal all))
      (slice_get normal.bodies one.body) reached in
      keeps_heads one (range.heads k rule within) (range.heads_fit k rule within)
      (groups.of_rule k rule within) (body_in one found.0 found.1 found.2)

  -- the pair of a model
  pub pair_out : IsPairOf normal (whole_in normal all) (part_in normal all)
  pair_out = record {
    over = record {
      positions = length-whole;
      no_atom = front_first all normal.atoms first;
    };
    proper = record {
      positions = length-part ∙ sym length-whole;
      inside = inside;
      other = differ;
    };
    keeps = keeps_part;
  }
