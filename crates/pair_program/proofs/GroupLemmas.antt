-- The groups of rules as lists: what holds of all of them, and what is among them.
use Rattle.std.proofs.Common.{◌≡◌, ◌<◌, ◌≤◌, ◌+◌, ◌⊎◌, inl, inr, ℕ, zero, suc, List, [], ◌∷◌}
use Rattle.std.proofs.Common.{◌++◌, Some, slice_get, length, get_or, take, flat_map, All, Any}
use Rattle.std.proofs.Common.{Contains, refl, sym, ap, subst, ◌∙◌, arith, append_assoc}
use Rattle.std.proofs.Common.{length-append, length-take-le, ⊎_elim}
use Rattle.std.proofs.lemmas.Bool.{cases_eq}
use Rattle.std.proofs.lemmas.List.{get_or_append_left, get_or-append-add}
use Rattle.std.proofs.lemmas.List.Elements.{All-nil, All-cons, All-head, All-tail, All-append}
use Rattle.ground_program.specs.declared.program.Rule.{Rule}
use Rattle.normal_program.specs.declared.normal.BodyOf.{BodyOf}
use Rattle.normal_program.specs.declared.normal.Normal.{Normal}
use Rattle.pair_program.specs.Rules.{count_up, body_rule, body_rules, rules_of_atom, atom_rules}
use Rattle.pair_program.specs.Rules.{rules_of_rule, free_rule, proper_rule, rules_of}
use Rattle.item_list.proofs.ListLemmas.{Any-append_left, All-left, All-right, All-flat_map}
use Rattle.item_list.proofs.ListLemmas.{take_more_read}

module _ {X : Type 0} (P : X → Type 0) where
  -- some item of the second list is some item of both
  pub Any-append_right : (xs ys : List X) → Any P ys → Any P (xs ++ ys)
  Any-append_right xs ys some = (
    length xs + some.0,
    some.1,
    omega (arith, length-append xs ys, some.2),
    get_or-append-add xs ys some.0 some.1 ∙ some.3,
    some.4,
  )

  -- some item of both is one of either
  pub Any-append_cases : (xs ys : List X) → Any P (xs ++ ys) → Any P xs ⊎ Any P ys
  Any-append_cases [] ys some = inr some
  Any-append_cases (x ∷ xs) ys (zero, y, within, here, holds) =
      inl (0, y, omega arith, here, holds)
  Any-append_cases (x ∷ xs) ys (suc k, y, within, here, holds) = ⊎_elim
      (λ front. inl (suc front.0, front.1, omega (arith, front.2), front.3, front.4))
      (λ back. inr back)
      (Any-append_cases xs ys (k, y, omega (arith, within), here, holds))

  -- some item of one is that item
  pub any_one : (x : X) → Any P (x ∷ []) → P x
  any_one x (zero, y, within, here, holds) = subst P (sym here) holds
  any_one x (suc k, y, within, here, holds) = absurd (omega (arith, within))

  -- all items of three
  pub three_of : (x y z : X) → All P (x ∷ y ∷ z ∷ []) → P x × P y × P z
  three_of x y z all = (all 0 x (omega arith), all 1 x (omega arith), all 2 x (omega arith))

  pub all_three : (x y z : X) → P x → P y → P z → All P (x ∷ y ∷ z ∷ [])
  all_three x y z one two three =
      All-cons P x (y ∷ z ∷ []) one
      (All-cons P y (z ∷ []) two (All-cons P z [] three (All-nil P)))

-- one more body
body_rules-push : (atoms first : ℕ) (bodies : List BodyOf) (body : BodyOf)
    → body_rules atoms first (bodies ++ body ∷ [])
    ≡ body_rules atoms first bodies ++ body_rule atoms (first + length bodies) body ∷ []
body_rules-push atoms first [] body =
    ap (λ number. body_rule atoms number body ∷ []) (omega arith)
body_rules-push atoms first (one ∷ bodies) body =
    let number : first + 1 + length bodies ≡ first + length (one ∷ bodies) = omega arith in
    ap (λ rules. body_rule atoms first one ∷ rules)
    (body_rules-push atoms (first + 1) bodies body
    ∙ ap (λ at. body_rules atoms (first + 1) bodies ++ body_rule atoms at body ∷ []) number)

-- the loop over the bodies
pub next_body : (atoms : ℕ) (old now new : List Rule) (bodies : List BodyOf) (at : ℕ)
    (body : BodyOf) (rule : Rule) → at < length bodies → body ≡ get_or bodies at body
    → rule ≡ body_rule atoms at body → now ≡ old ++ body_rules atoms 0 (take at bodies)
    → new ≡ now ++ rule ∷ [] → new ≡ old ++ body_rules atoms 0 (take (at + 1) bodies)
next_body atoms old now new bodies at body rule within read is before after =
    let count : 0 + length (take at bodies) ≡ at =
    omega (arith, length-take-le at bodies (omega arith)) in
    after ∙ ap (λ rules. rules ++ rule ∷ []) before
    ∙ append_assoc old (body_rules atoms 0 (take at bodies)) (rule ∷ [])
    ∙ ap (λ rules. old ++ rules)
    (ap (λ one. body_rules atoms 0 (take at bodies) ++ one ∷ [])
    (is ∙ ap (λ number. body_rule atoms number body) (sym count))
    ∙ sym (body_rules-push atoms 0 (take at bodies) body)
    ∙ ap (body_rules atoms 0) (sym (take_more_read bodies at body within read)))

module _ (P : Rule → Type 0) where
  -- what holds of all rules of bodies holds of that of each
  pub at_body : (atoms first : ℕ) (bodies : List BodyOf) → All P (body_rules atoms first bodies)
      → (number : ℕ) (body : BodyOf) → slice_get bodies number ≡ Some body
      → P (body_rule atoms (first + number) body)
  at_body atoms first [] all number body here = cc
  at_body atoms first (one ∷ bodies) all zero body here =
      let same : one ≡ body = cc in
      let number : first ≡ first + 0 = omega arith in
      subst P
      (ap (λ it. body_rule atoms first it) same ∙ ap (λ at. body_rule atoms at body) number)
      (All-head P (body_rule atoms first one) (body_rules atoms (first + 1) bodies) all)
  at_body atoms first (one ∷ bodies) all (suc number) body here =
      let place : first + 1 + number ≡ first + suc number = omega arith in
      subst P (ap (λ at. body_rule atoms at body) place)
      (at_body atoms (first + 1) bodies
      (All-tail P (body_rule atoms first one) (body_rules atoms (first + 1) bodies) all) number
      body here)

  -- and the other way round
  pub of_bodies : (atoms first : ℕ) (bodies : List BodyOf)
      → ((number : ℕ) (body : BodyOf) → slice_get bodies number ≡ Some body
      → P (body_rule atoms (first + number) body)) → All P (body_rules atoms first bodies)
  of_bodies atoms first [] each = All-nil P
  of_bodies atoms first (one ∷ bodies) each =
      let number : first + 0 ≡ first = omega arith in
      All-cons P (body_rule atoms first one) (body_rules atoms (first + 1) bodies)
      (subst P (ap (λ at. body_rule atoms at one) number) (each 0 one refl))
      (of_bodies atoms (first + 1) bodies
      (λ at body here. let place : first + suc at ≡ first + 1 + at = omega arith in
      subst P (ap (λ at. body_rule atoms at body) place) (each (suc at) body here)))

  -- what holds of all rules of so many atoms holds of those of each
  pub at_atom : (atoms bodies count : ℕ) → All P (atom_rules atoms bodies count)
      → (atom : ℕ) → 1 ≤ atom → atom ≤ count → All P (rules_of_atom atoms bodies atom)
  at_atom atoms bodies zero all atom first last = absurd (omega (arith, first, last))
  at_atom atoms bodies (suc count) all atom first last = ⊎_elim
      (λ low. at_atom atoms bodies count
      (All-left P (atom_rules atoms bodies count) (rules_of_atom atoms bodies (suc count)) all)
      atom first low)
      (λ (same : atom ≡ suc count).
      subst (λ it. All P (rules_of_atom atoms bodies it)) (sym same)
      (All-right P (atom_rules atoms bodies count) (rules_of_atom atoms bodies (suc count)) all))
      (last_or_before atom count last)
    where
      last_or_before : (one count : ℕ) → one ≤ suc count → (one ≤ count) ⊎ (one ≡ suc count)
      last_or_before one count less = ⊎_elim (λ same. inr same)
          (λ other. inl (omega (arith, less, other))) (cases_eq one (suc count))

  -- and the other way round
  pub of_atoms : (atoms bodies count : ℕ)
      → ((atom : ℕ) → 1 ≤ atom → atom ≤ count → All P (rules_of_atom atoms bodies atom))
      → All P (atom_rules atoms bodies count)
  of_atoms atoms bodies zero each = All-nil P
  of_atoms atoms bodies (suc count) each =
      All-append P (atom_rules atoms bodies count) (rules_of_atom atoms bodies (suc count))
      (of_atoms atoms bodies count (λ atom first last. each atom first (omega (arith, last))))
      (each (suc count) (omega arith) (omega arith))

  -- what holds of all rules that rules give holds of those of a flat map
  pub of_flat : {X : Type 0} (f : X → List Rule) (xs : List X) → All (λ x. All P (f x)) xs
      → All P (flat_map f xs)
  of_flat f [] all = All-nil P
  of_flat f (x ∷ xs) all =
      All-append P (f x) (flat_map f xs) (All-head (λ y. All P (f y)) x xs all)
      (of_flat f xs (All-tail (λ y. All P (f y)) x xs all))

  -- what holds of each group of rules
  pub record AllGroups (normal : Normal) : Type 0 where
    pub free : P (free_rule normal.atoms (length normal.bodies))
    pub of_body : (number : ℕ) (body : BodyOf) → slice_get normal.bodies number ≡ Some body
        → P (body_rule normal.atoms number body)
    pub of_rule : All (λ rule. All P (rules_of_rule normal.atoms rule)) normal.rules
    pub of_atom : (atom : ℕ) → 1 ≤ atom → atom ≤ normal.atoms
        → All P (rules_of_atom normal.atoms (length normal.bodies) atom)
    pub proper : P (proper_rule normal.atoms)

  -- all rules are those of the groups
  pub to_groups : (normal : Normal) → All P (rules_of normal) → AllGroups normal
  to_groups normal all =
      let free = free_rule normal.atoms (length normal.bodies) ∷ [] in
      let bodies = body_rules normal.atoms 0 normal.bodies in
      let heads = flat_map (rules_of_rule normal.atoms) normal.rules in
      let atoms = atom_rules normal.atoms (length normal.bodies) normal.atoms in
      let proper = proper_rule normal.atoms ∷ [] in
      let four = All-left P (free ++ bodies ++ heads ++ atoms) proper all in
      let three = All-left P (free ++ bodies ++ heads) atoms four in
      let two = All-left P (free ++ bodies) heads three in
      record {
        free = All-head P (free_rule normal.atoms (length normal.bodies)) bodies two;
        of_body =
            λ number body here. let same : 0 + number ≡ number = omega arith in
            subst P (ap (λ at. body_rule normal.atoms at body) same)
            (at_body normal.atoms 0 normal.bodies (All-right P free bodies two) number body here);
        of_rule =
            All-flat_map P (rules_of_rule normal.atoms) normal.rules
            (All-right P (free ++ bodies) heads three);
        of_atom =
            at_atom normal.atoms (length normal.bodies) normal.atoms
            (All-right P (free ++ bodies ++ heads) atoms four);
        proper =
            All-head P (proper_rule normal.atoms) []
            (All-right P (free ++ bodies ++ heads ++ atoms) proper all);
      }

  pub from_groups : (normal : Normal) → AllGroups normal → All P (rules_of normal)
  from_groups normal groups =
      let free = free_rule normal.atoms (length normal.bodies) ∷ [] in
      let bodies = body_rules normal.atoms 0 normal.bodies in
      let heads = flat_map (rules_of_rule normal.atoms) normal.rules in
      let atoms = atom_rules normal.atoms (length normal.bodies) normal.atoms in
      let proper = proper_rule normal.atoms ∷ [] in
      let two =
      All-cons P (free_rule normal.atoms (length normal.bodies)) bodies groups.free
      (of_bodies normal.atoms 0 normal.bodies
      (λ number body here. let same : number ≡ 0 + number = omega arith in
      subst P (ap (λ at. body_rule normal.atoms at body) same)
      (groups.of_body number body here))) in
      let three =
      All-append P (free ++ bodies) heads two
      (of_flat (rules_of_rule normal.atoms) normal.rules groups.of_rule) in
      let four =
      All-append P (free ++ bodies ++ heads) atoms three
      (of_atoms normal.atoms (length normal.bodies) normal.atoms groups.of_atom) in
      All-append P (free ++ bodies ++ heads ++ atoms) proper four
      (All-cons P (proper_rule normal.atoms) [] groups.proper (All-nil P))

module _ (P : ℕ → Type 0) where
  -- some number from the first on
  pub Any-count_up : (first count number : ℕ) → number < count → P (first + number)
      → Any P (count_up first count)
  Any-count_up first zero number less holds = absurd (omega (arith, less))
  Any-count_up first (suc count) number less holds = ⊎_elim
      (λ (same : number ≡ count).
      Any-append_right P (count_up first count) ((first + count) ∷ [])
      (0, first + count, omega arith, refl, subst (λ at. P (first + at)) same holds))
      (λ other.
      Any-append_left P (count_up first count) ((first + count) ∷ [])
      (Any-count_up first count number (omega (arith, less, other)) holds))
      (cases_eq number count)

  pub found_count_up : (first count : ℕ) → Any P (count_up first count)
      → (number : ℕ) × (number < count) × P (first + number)
  found_count_up first zero some = absurd (omega (arith, some.2))
  found_count_up first (suc count) some = ⊎_elim
      (λ before. let found = found_count_up first count before in
      (found.0, omega (arith, found.1), found.2))
      (λ last. (count, omega arith, any_one P (first + count) last))
      (Any-append_cases P (count_up first count) ((first + count) ∷ []) some)

  -- all numbers from the first on
  pub All-count_up : (first count : ℕ) → ((number : ℕ) → number < count → P (first + number))
      → All P (count_up first count)
  All-count_up first zero each = All-nil P
  All-count_up first (suc count) each =
      All-append P (count_up first count) ((first + count) ∷ [])
      (All-count_up first count (λ number less. each number (omega (arith, less))))
      (All-cons P (first + count) [] (each count (omega arith)) (All-nil P))

pub length-count_up : (first count : ℕ) → length (count_up first count) ≡ count
length-count_up first zero = refl
length-count_up first (suc count) =
    omega (
      arith,
      length-append (count_up first count) ((first + count) ∷ []),
      length-count_up first count,
    )

pub get_or-count_up : (first count number d : ℕ) → number < count
    → get_or (count_up first count) number d ≡ first + number
get_or-count_up first zero number d less = absurd (omega (arith, less))
get_or-count_up first (suc count) number d less = ⊎_elim
    (λ (same : number ≡ count).
    let place : number ≡ length (count_up first count) + 0 =
    omega (arith, same, length-count_up first count) in
    ap (λ at. get_or (count_up first (suc count)) at d) place
    ∙ get_or-append-add (count_up first count) ((first + count) ∷ []) 0 d
    ∙ ap (λ at. first + at) (sym same))
    (λ other.
    let before : number < count = omega (arith, less, other) in
    get_or_append_left (count_up first count) ((first + count) ∷ []) d number
    (omega (arith, before, length-count_up first count))
    ∙ get_or-count_up first count number d before)
    (cases_eq number count)

-- each number is among them
pub Contains-count_up : (first count number : ℕ) → number < count
    → Contains (count_up first count) (first + number)
Contains-count_up first count number less = (
  number,
  omega (arith, less, length-count_up first count),
  get_or-count_up first count number (first + number) less,
)
