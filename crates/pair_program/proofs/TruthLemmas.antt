-- What the rules of the pair program ask of a set.
use Rattle.std.proofs.Common.{◌≡◌, ◌≤◌, ◌+◌, ℕ, Bool, true, false, not, List, []}
use Rattle.std.proofs.Common.{◌∷◌, ◌++◌, length, map, filter, cond, All, Any, sum_by, if◌then◌else◌}
use Rattle.std.proofs.Common.{refl, ap, arith, ⊎_elim}
use Rattle.std.proofs.lemmas.Bool.{cases_Bool}
use Rattle.std.proofs.lemmas.List.Elements.{All-nil, All-cons, All-head, All-tail, All-filter}
use Rattle.std.proofs.lemmas.List.Sums.{sum_by-cons, sum_by-append}
use Rattle.ground_program.specs.Meaning.{has, IsIn, weight_in, Keeps}
use Rattle.normal_program.specs.declared.normal.Part.{Part}
use Rattle.normal_program.specs.declared.normal.BodyOf.{BodyOf}
use Rattle.normal_program.specs.Body.{part_weight, weight_of, BodyHoldsN}
use Rattle.pair_program.specs.Rules.{holds, disjunction, pair_lit, has_sign, lits_of, body_rule}
use Rattle.pair_program.specs.Rules.{body_atom, part_atom}

module _ (set : List Bool) where
  -- what an atom adds
  weight-true : (atom : ℕ) → IsIn set atom → weight_in set set (holds atom) ≡ 1
  weight-true atom here = ap (λ b. if b then 1 else 0) here

  weight-false : (atom : ℕ) → has set atom ≡ false → weight_in set set (holds atom) ≡ 0
  weight-false atom out = ap (λ b. if b then 1 else 0) out

  -- where all atoms are true they weigh their number
  all_weigh : (atoms : List ℕ) → All (IsIn set) atoms
      → length atoms ≤ sum_by (weight_in set set) (map holds atoms)
  all_weigh [] all = omega arith
  all_weigh (atom ∷ atoms) all =
      omega (
        arith,
        sum_by-cons (weight_in set set) (holds atom) (map holds atoms),
        weight-true atom (All-head (IsIn set) atom atoms all),
        all_weigh atoms (All-tail (IsIn set) atom atoms all),
      )

  weigh-at_most : (atoms : List ℕ) → sum_by (weight_in set set) (map holds atoms) ≤ length atoms
  weigh-at_most [] = omega arith
  weigh-at_most (atom ∷ atoms) = ⊎_elim
      (λ here. omega (
        arith,
        sum_by-cons (weight_in set set) (holds atom) (map holds atoms),
        weight-true atom here,
        weigh-at_most atoms,
      ))
      (λ out. omega (
        arith,
        sum_by-cons (weight_in set set) (holds atom) (map holds atoms),
        weight-false atom out,
        weigh-at_most atoms,
      ))
      (cases_Bool (has set atom))

  -- and where they weigh their number all are true
  weigh-all : (atoms : List ℕ) → length atoms ≤ sum_by (weight_in set set) (map holds atoms)
      → All (IsIn set) atoms
  weigh-all [] enough = All-nil (IsIn set)
  weigh-all (atom ∷ atoms) enough = ⊎_elim
      (λ here. All-cons (IsIn set) atom atoms here
      (weigh-all atoms (omega (
        arith,
        sum_by-cons (weight_in set set) (holds atom) (map holds atoms),
        weight-true atom here,
        enough,
      ))))
      (λ out. absurd (omega (
        arith,
        sum_by-cons (weight_in set set) (holds atom) (map holds atoms),
        weight-false atom out,
        weigh-at_most atoms,
        enough,
      )))
      (cases_Bool (has set atom))

  -- a disjunction is kept where all atoms give some head
  pub keeps_disjunction : (heads atoms : List ℕ) → (All (IsIn set) atoms → Any (IsIn set) heads)
      → Keeps set set (disjunction heads atoms)
  keeps_disjunction heads atoms gives enough = gives (weigh-all atoms enough)

  pub some_head : (heads atoms : List ℕ) → Keeps set set (disjunction heads atoms)
      → All (IsIn set) atoms → Any (IsIn set) heads
  some_head heads atoms keeps all = keeps (all_weigh atoms all)

-- the signs of literals part a list
pub sum-signs : (f : Part → ℕ) (parts : List Part)
    → sum_by f (filter (has_sign true) parts) + sum_by f (filter (has_sign false) parts)
    ≡ sum_by f parts
sum-signs f [] = refl
sum-signs f (part ∷ parts) = ⊎_elim
    (λ negative.
    let one : filter (has_sign true) (part ∷ parts) ≡ part ∷ filter (has_sign true) parts =
    ap (λ b. cond b (part ∷ filter (has_sign true) parts) (filter (has_sign true) parts))
    negative in
    let other : filter (has_sign false) (part ∷ parts) ≡ filter (has_sign false) parts =
    ap (λ b. cond (not b) (part ∷ filter (has_sign false) parts) (filter (has_sign false) parts))
    negative in
    omega (
      arith,
      ap (sum_by f) one,
      ap (sum_by f) other,
      sum_by-cons f part (filter (has_sign true) parts),
      sum_by-cons f part parts,
      sum-signs f parts,
    ))
    (λ positive.
    let one : filter (has_sign true) (part ∷ parts) ≡ filter (has_sign true) parts =
    ap (λ b. cond b (part ∷ filter (has_sign true) parts) (filter (has_sign true) parts))
    positive in
    let other : filter (has_sign false) (part ∷ parts) ≡ part ∷ filter (has_sign false) parts =
    ap (λ b. cond (not b) (part ∷ filter (has_sign false) parts) (filter (has_sign false) parts))
    positive in
    omega (
      arith,
      ap (sum_by f) one,
      ap (sum_by f) other,
      sum_by-cons f part (filter (has_sign false) parts),
      sum_by-cons f part parts,
      sum-signs f parts,
    ))
    (cases_Bool part.lit.negated)

-- a set over the atoms of the pair program shows a whole and a part
pub record Shows (atoms : ℕ) (whole part all : List Bool) : Type 0 where
  pub of_whole : (atom : ℕ) → atom ≤ atoms → has all atom ≡ has whole atom
  pub of_part : (atom : ℕ) → 1 ≤ atom → atom ≤ atoms
      → has all (part_atom atoms atom) ≡ has part atom

module _ (atoms : ℕ) (whole part all : List Bool) (shows : Shows atoms whole part all) where
  lit_weighs : (atom weight : ℕ) (negated : Bool) → 1 ≤ atom → atom ≤ atoms
      → weight_in all all
      (pair_lit atoms
      (record { lit = record { atom = atom; negated = negated }; weight = weight }))
      ≡ part_weight whole part
      (record { lit = record { atom = atom; negated = negated }; weight = weight })
  lit_weighs atom weight true first last =
      ap (λ b. if not b then weight else 0) (shows.of_whole atom last)
  lit_weighs atom weight false first last =
      ap (λ b. if b then weight else 0) (shows.of_part atom first last)

  -- the literals weigh in the set what those of the body weigh in the part by the whole
  lits_weigh : (parts : List Part) → All (λ one. (1 ≤ one.lit.atom) × (one.lit.atom ≤ atoms)) parts
      → sum_by (weight_in all all) (map (pair_lit atoms) parts)
      ≡ sum_by (part_weight whole part) parts
  lits_weigh [] each = refl
  lits_weigh (one ∷ parts) each =
      let here = All-head (λ one. (1 ≤ one.lit.atom) × (one.lit.atom ≤ atoms)) one parts each in
      omega (
        arith,
        sum_by-cons (weight_in all all) (pair_lit atoms one) (map (pair_lit atoms) parts),
        sum_by-cons (part_weight whole part) one parts,
        lit_weighs one.lit.atom one.weight one.lit.negated here.0 here.1,
        lits_weigh parts
            (All-tail (λ one. (1 ≤ one.lit.atom) × (one.lit.atom ≤ atoms)) one parts each),
      )

  pub body_weighs : (body : BodyOf)
      → All (λ one. (1 ≤ one.lit.atom) × (one.lit.atom ≤ atoms)) body.parts
      → sum_by (weight_in all all)
      (lits_of atoms true body.parts ++ lits_of atoms false body.parts)
      ≡ weight_of whole part body
  body_weighs body each =
      omega (
        arith,
        sum_by-append (weight_in all all) (lits_of atoms true body.parts)
            (lits_of atoms false body.parts),
        lits_weigh (filter (has_sign true) body.parts)
            (All-filter (has_sign true) (λ one. (1 ≤ one.lit.atom) × (one.lit.atom ≤ atoms))
            body.parts each),
        lits_weigh (filter (has_sign false) body.parts)
            (All-filter (has_sign false) (λ one. (1 ≤ one.lit.atom) × (one.lit.atom ≤ atoms))
            body.parts each),
        sum-signs (part_weight whole part) body.parts,
      )

  module _ (number : ℕ) (body : BodyOf)
      (each : All (λ one. (1 ≤ one.lit.atom) × (one.lit.atom ≤ atoms)) body.parts) where
    -- where the rule of a body is kept, its atom is true if the body holds
    pub body_reaches : Keeps all all (body_rule atoms number body) → BodyHoldsN whole part body
        → IsIn all (body_atom atoms number)
    body_reaches keeps enough =
        All-head (IsIn all) (body_atom atoms number) []
        (keeps (omega (arith, enough, body_weighs body each)))

    -- and the other way round
    pub keeps_body : (BodyHoldsN whole part body → IsIn all (body_atom atoms number))
        → Keeps all all (body_rule atoms number body)
    keeps_body reaches enough =
        All-cons (IsIn all) (body_atom atoms number) []
        (reaches (omega (arith, enough, body_weighs body each))) (All-nil (IsIn all))
