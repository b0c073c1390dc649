-- A pair makes a model of the pair program.
use Rattle.std.proofs.Common.{◌≡◌, ◌<◌, ◌≤◌, ◌+◌, ◌-◌, ◌*◌, ◌⊎◌, ◌&&◌, inl, inr, ℕ, zero, suc, Bool}
use Rattle.std.proofs.Common.{true, false, not, if◌then◌else◌, List, [], ◌∷◌, Some}
use Rattle.std.proofs.Common.{slice_get, length, get_or, map, All, Any, refl, sym, ap}
use Rattle.std.proofs.Common.{subst, ◌∙◌, arith, ⊎_elim, IsSomeAnd}
use Rattle.std.proofs.Common.{true≢false, le-leb, leb-true}
use Rattle.std.proofs.lemmas.Bool.{cases_Bool, cases_eq, and_parts}
use Rattle.std.proofs.lemmas.List.{get_or-map, length-map}
use Rattle.std.proofs.lemmas.List.Elements.{All-nil, All-cons, All-head, All-map}
use Rattle.std.proofs.lemmas.Option.{get_or_from_slice_get, slice_get-get_or}
use Rattle.ground_program.specs.declared.program.Kind.{Kind}
use Rattle.ground_program.specs.declared.program.Kind.TheVariants.{Basic, Constraint, Choice}
use Rattle.ground_program.specs.declared.program.Kind.TheVariants.{Weight, Disjunctive}
use Rattle.ground_program.specs.Program.{HeadsFit}
use Rattle.ground_program.specs.Meaning.{has, IsIn, Keeps, KeepsAll, HeadHolds}
use Rattle.normal_program.specs.declared.normal.BodyOf.{BodyOf}
use Rattle.normal_program.specs.declared.normal.NormalRule.{NormalRule}
use Rattle.normal_program.specs.declared.normal.Normal.{Normal}
use Rattle.normal_program.specs.Body.{body_holds, BodyHoldsN, weight_of}
use Rattle.normal_program.specs.Normal.{KeepsN}
use Rattle.normal_program.specs.Clauses.{is_choice}
use Rattle.normal_program.specs.Loop.{IsAtomOf}
use Rattle.normal_program.specs.Range.{IsInRange}
use Rattle.pair_program.specs.Pairs.{IsPairOf}
use Rattle.pair_program.specs.Rules.{part_atom, alone_atom, body_atom, last_atom, disjunction}
use Rattle.pair_program.specs.Rules.{free_rule, body_rule, choice_rule, rules_of_rule}
use Rattle.pair_program.specs.Rules.{rules_of_atom}
use Rattle.pair_program.specs.Rules.{count_up, proper_rule, rules_of}
use Rattle.ground_program.proofs.SetLemmas.{same_sets}
use Rattle.pair_program.proofs.GroupLemmas.{all_three, Any-count_up}
use Rattle.pair_program.proofs.GroupLemmas.{from_groups}
use Rattle.pair_program.proofs.TruthLemmas.{Shows, keeps_disjunction, keeps_body}
use Rattle.pair_program.proofs.OutLemmas.{in_range, place_of, choice_is}

-- some head of one
some_from_all : (set : List Bool) (heads : List ℕ) → length heads ≡ 1 → All (IsIn set) heads
    → Any (IsIn set) heads
some_from_all set [] one all = absurd (omega (arith, one))
some_from_all set (head ∷ rest) one all =
    (0, head, omega arith, refl, All-head (IsIn set) head rest all)

-- where the heads of a rule that is no choice rule hold some head does
some_from_head : (kind : Kind) (by set : List Bool) (heads : List ℕ) → is_choice kind ≡ false
    → HeadsFit kind heads → HeadHolds kind by set heads → Any (IsIn set) heads
some_from_head Basic by set heads other fits holds = some_from_all set heads fits holds
some_from_head Constraint by set heads other fits holds = some_from_all set heads fits holds
some_from_head Choice by set heads other fits holds = cc
some_from_head Weight by set heads other fits holds = some_from_all set heads fits holds
some_from_head Disjunctive by set heads other fits holds = holds

-- a set shows a pair: whole, part, the rest of the whole, which bodies hold, and not the last atom
pub record ShowsPair (normal : Normal) (whole part all : List Bool) : Type 0 where
  pub of_whole : (atom : ℕ) → atom ≤ normal.atoms → has all atom ≡ has whole atom
  pub of_part : (atom : ℕ) → 1 ≤ atom → atom ≤ normal.atoms
      → has all (part_atom normal.atoms atom) ≡ has part atom
  pub of_alone : (atom : ℕ) → 1 ≤ atom → atom ≤ normal.atoms
      → has all (alone_atom normal.atoms atom) ≡ (has whole atom && not (has part atom))
  pub of_body : (number : ℕ) (body : BodyOf) → slice_get normal.bodies number ≡ Some body
      → has all (body_atom normal.atoms number) ≡ body_holds whole part body
  pub of_last : has all (last_atom normal.atoms (length normal.bodies)) ≡ false

-- a test of numbers passes at one below a limit, or at none
first_or_none : (test : ℕ → Bool) (limit : ℕ)
    → ((number : ℕ) × (number < limit) × (test number ≡ true))
    ⊎ ((number : ℕ) → number < limit → test number ≡ false)
first_or_none test zero = inr (λ number less. absurd (omega (arith, less)))
first_or_none test (suc limit) = ⊎_elim
    (λ found. inl (found.0, omega (arith, found.1), found.2))
    (λ none. ⊎_elim
    (λ here. inl (limit, omega arith, here))
    (λ out. inr (λ number less. ⊎_elim
    (λ (same : number ≡ limit). ap test same ∙ out)
    (λ other. none number (omega (arith, less, other)))
    (cases_eq number limit)))
    (cases_Bool (test limit)))
    (first_or_none test limit)

-- both of two truth values, the second denied
and_not : (a b : Bool) → a ≡ true → (a && not b) ≡ false → b ≡ true
and_not true true here none = refl
and_not true false here none = sym none
and_not false b here none = cc

module _ (normal : Normal) (range : IsInRange normal) (whole part : List Bool)
    (pair : IsPairOf normal whole part) where
  -- some atom of the whole isn't in the part
  some_missing : (atom : ℕ) × (1 ≤ atom) × (atom ≤ normal.atoms)
      × ((has whole atom && not (has part atom)) ≡ true)
  some_missing = ⊎_elim
      (λ found. (found.0, above found.0 found.2, omega (arith, found.1), found.2))
      (λ none. absurd (pair.proper.other
      (same_sets part whole pair.proper.positions pair.proper.inside (back none))))
      (first_or_none (λ atom. has whole atom && not (has part atom)) (normal.atoms + 1))
    where
      above : (atom : ℕ) → (has whole atom && not (has part atom)) ≡ true → 1 ≤ atom
      above zero alone =
          absurd (true≢false
          (sym (and_parts (has whole 0) (not (has part 0)) alone).0
          ∙ get_or_from_slice_get whole 0 false false pair.over.no_atom))
      above (suc at) alone = omega arith

      back : ((atom : ℕ) → atom < normal.atoms + 1
          → (has whole atom && not (has part atom)) ≡ false)
          → (atom : ℕ) → IsIn whole atom → IsIn part atom
      back none atom here =
          and_not (has whole atom) (has part atom) here
          (none atom (omega (arith, place_of whole atom here, pair.over.positions)))

  module _ (all : List Bool) (shows : ShowsPair normal whole part all) where
    shows_both : Shows normal.atoms whole part all
    shows_both = record { of_whole = shows.of_whole; of_part = shows.of_part }

    keeps_free : Keeps all all (free_rule normal.atoms (length normal.bodies))
    keeps_free enough k d within here = here

    keeps_each_body : (number : ℕ) (body : BodyOf) → slice_get normal.bodies number ≡ Some body
        → Keeps all all (body_rule normal.atoms number body)
    keeps_each_body number body here =
        keeps_body normal.atoms whole part all shows_both number body
        (in_range normal range number body here)
        (λ holds. shows.of_body number body here
        ∙ le-leb body.bound (weight_of whole part body) holds)

    keeps_atom : (atom : ℕ) → 1 ≤ atom → atom ≤ normal.atoms
        → All (Keeps all all) (rules_of_atom normal.atoms (length normal.bodies) atom)
    keeps_atom atom low last =
        let in_part = part_atom normal.atoms atom in
        let alone = alone_atom normal.atoms atom in
        let never = last_atom normal.atoms (length normal.bodies) in
        all_three (Keeps all all) (disjunction (atom ∷ []) (in_part ∷ []))
        (disjunction (atom ∷ []) (alone ∷ [])) (disjunction (never ∷ []) (in_part ∷ alone ∷ []))
        (keeps_disjunction all (atom ∷ []) (in_part ∷ [])
        (λ here. (
          0,
          atom,
          omega arith,
          refl,
          shows.of_whole atom last
              ∙ pair.proper.inside atom
              (sym (shows.of_part atom low last) ∙ here 0 in_part (omega arith)),
        )))
        (keeps_disjunction all (atom ∷ []) (alone ∷ [])
        (λ here. (
          0,
          atom,
          omega arith,
          refl,
          shows.of_whole atom last
              ∙ (and_parts (has whole atom) (not (has part atom))
              (sym (shows.of_alone atom low last) ∙ here 0 alone (omega arith))).0,
        )))
        (keeps_disjunction all (never ∷ []) (in_part ∷ alone ∷ [])
        (λ here. absurd (not_twice (has part atom)
        (sym (shows.of_part atom low last) ∙ here 0 in_part (omega arith))
        (and_parts (has whole atom) (not (has part atom))
        (sym (shows.of_alone atom low last) ∙ here 1 alone (omega arith))).1)))
      where
        not_twice : (b : Bool) → b ≡ true → not b ≡ true → ⊥
        not_twice true one two = cc
        not_twice false one two = cc

    keeps_proper : Keeps all all (proper_rule normal.atoms)
    keeps_proper =
        keeps_disjunction all (count_up (2 * normal.atoms + 1) normal.atoms) []
        (λ none.
        let (atom, low, last, alone) = some_missing in
        let place : 2 * normal.atoms + atom ≡ 2 * normal.atoms + 1 + (atom - 1) =
        omega (arith, low) in
        Any-count_up (IsIn all) (2 * normal.atoms + 1) normal.atoms (atom - 1)
        (omega (arith, low, last))
        (subst (IsIn all) place (shows.of_alone atom low last ∙ alone)))

    -- where its atom is true a body holds
    body_from : (number : ℕ) → number < length normal.bodies
        → IsIn all (body_atom normal.atoms number)
        → IsSomeAnd (slice_get normal.bodies number) (BodyHoldsN whole part)
    body_from number within here =
        let blank : BodyOf = record { bound = 0; parts = [] } in
        let body = get_or normal.bodies number blank in
        let is = slice_get-get_or normal.bodies number blank within in
        subst (λ o. IsSomeAnd o (BodyHoldsN whole part)) (sym is)
        (leb-true body.bound (weight_of whole part body)
        (sym (shows.of_body number body is) ∙ here))

    -- a head in the part has its atom true
    in_all : (heads : List ℕ) → All (IsAtomOf normal) heads → Any (IsIn part) heads
        → Any (IsIn all) (map (part_atom normal.atoms) heads)
    in_all heads atoms (k, head, within, is, here) =
        let atom : IsAtomOf normal head = subst (IsAtomOf normal) is (atoms k head within) in (
          k,
          part_atom normal.atoms head,
          omega (arith, within, length-map heads (part_atom normal.atoms)),
          get_or-map (part_atom normal.atoms) heads k head (part_atom normal.atoms head) within
              ∙ ap (part_atom normal.atoms) is,
          shows.of_part head atom.first atom.last ∙ here,
        )

    keeps_choices : (rule : NormalRule) → rule.body < length normal.bodies
        → All (IsAtomOf normal) rule.heads → rule.kind ≡ Choice
        → KeepsN normal.bodies whole part rule
        → All (Keeps all all)
        (map (choice_rule normal.atoms (body_atom normal.atoms rule.body)) rule.heads)
    keeps_choices rule within atoms is keeps =
        All-map (Keeps all all) (choice_rule normal.atoms (body_atom normal.atoms rule.body))
        rule.heads
        (λ k d inside.
        let head = get_or rule.heads k d in
        let body = body_atom normal.atoms rule.body in
        let atom : IsAtomOf normal head = atoms k d inside in
        keeps_disjunction all (part_atom normal.atoms head ∷ []) (body ∷ head ∷ [])
        (λ here.
        let holds : All (λ it. IsIn whole it → IsIn part it) rule.heads =
        subst (λ kind. HeadHolds kind whole part rule.heads) is
        (keeps (body_from rule.body within (here 0 body (omega arith)))) in (
          0,
          part_atom normal.atoms head,
          omega arith,
          refl,
          shows.of_part head atom.first atom.last
              ∙ holds k d inside (sym (shows.of_whole head atom.last) ∙ here 1 head (omega arith)),
        )))

    keeps_rule : (rule : NormalRule) → rule.body < length normal.bodies
        → All (IsAtomOf normal) rule.heads → HeadsFit rule.kind rule.heads
        → KeepsN normal.bodies whole part rule
        → All (Keeps all all) (rules_of_rule normal.atoms rule)
    keeps_rule rule within atoms fits keeps =
        let body = body_atom normal.atoms rule.body in
        let choices = map (choice_rule normal.atoms body) rule.heads in
        let one = disjunction (map (part_atom normal.atoms) rule.heads) (body ∷ []) in
        ⊎_elim
        (λ choice.
        subst (λ b. All (Keeps all all) (if b then choices else one ∷ [])) (sym choice)
        (keeps_choices rule within atoms (choice_is rule.kind choice) keeps))
        (λ other.
        subst (λ b. All (Keeps all all) (if b then choices else one ∷ [])) (sym other)
        (All-cons (Keeps all all) one []
        (keeps_disjunction all (map (part_atom normal.atoms) rule.heads) (body ∷ [])
        (λ here. in_all rule.heads atoms
        (some_from_head rule.kind whole part rule.heads other fits
        (keeps (body_from rule.body within (here 0 body (omega arith)))))))
        (All-nil (Keeps all all))))
        (cases_Bool (is_choice rule.kind))

    -- a set that shows a pair keeps all rules
    pub keeps_pair : KeepsAll all all (rules_of normal)
    keeps_pair = from_groups (Keeps all all) normal (record {
      free = keeps_free;
      of_body = keeps_each_body;
      of_rule =
          λ k d within. keeps_rule (get_or normal.rules k d) (range.numbers k d within)
          (range.heads k d within) (range.heads_fit k d within) (pair.keeps k d within);
      of_atom = keeps_atom;
      proper = keeps_proper;
    })
