-- What is assumed for a set.
use Rattle.std.proofs.Common.{◌≡◌, ◌≤◌, ◌<◌, ◌+◌, ◌-◌, ℕ, Bool, true, false, not, List}
use Rattle.std.proofs.Common.{[], ◌∷◌, ◌++◌, length, map, get_or, refl, sym}
use Rattle.std.proofs.Common.{ap, ◌∙◌, subst, arith}
use Rattle.std.specs.Prelude.{All, if◌then◌else◌}
use Rattle.std.specs.List.{range_with_len}
use Rattle.std.proofs.lemmas.List.FromFn.{get_or-map-range_with_len, length-map-range_with_len}
use Rattle.std.proofs.lemmas.List.FromFn.{map-range_with_len_more}
use Rattle.ground_program.specs.Meaning.{has}
use Rattle.clause_store.specs.declared.literal.Lit.{Lit}
use Rattle.clause_store.specs.Clause.{IsOver, IsTrueIn, makes_true, truth, variable}
use Rattle.normal_program.specs.Clauses.{positive, negative}
use Rattle.normal_program.proofs.lemmas.Base.TruthLemmas.{makes_true-negative, makes_true-positive}
use Rattle.normal_program.proofs.lemmas.Base.TruthLemmas.{variable-negative, variable-positive}
use Rattle.kept_minimality.specs.Asking.{assumed_for, literal_in}

-- the literal of an atom
literal_at : (set : List Bool) (k : ℕ) (d : Lit) → k < length set - 1
    → get_or (assumed_for set) k d ≡ literal_in set (1 + k)
literal_at set k d low =
    get_or-map-range_with_len (literal_in set) 1 (length set - 1) k (1 + k) d low refl

count : (set : List Bool) → length (assumed_for set) ≡ length set - 1
count set = length-map-range_with_len (literal_in set) 1 (length set - 1)

literal_variable : (set : List Bool) (atom : ℕ) → variable (literal_in set atom) ≡ atom
literal_variable set atom = by (has set atom)
  where
    by : (b : Bool) → variable (if b then positive atom else negative atom) ≡ atom
    by true = variable-positive atom
    by false = variable-negative atom

literal_truth : (values set : List Bool) (atom : ℕ)
    → makes_true values (literal_in set atom)
    ≡ (if has set atom then truth values atom else not (truth values atom))
literal_truth values set atom = by (has set atom)
  where
    by : (b : Bool) → makes_true values (if b then positive atom else negative atom)
        ≡ (if b then truth values atom else not (truth values atom))
    by true = makes_true-positive values atom
    by false = makes_true-negative values atom

-- it is over the atoms
pub assumed_over : (vars : ℕ) (set : List Bool) → length set - 1 ≤ vars
    → All (IsOver vars) (assumed_for set)
assumed_over vars set few k d within =
    let low : k < length set - 1 = omega (arith, within, count set) in
    subst (IsOver vars) (sym (literal_at set k d low))
    (record {
      first = omega (arith, literal_variable set (1 + k));
      last = omega (arith, literal_variable set (1 + k), low, few);
    })

both : (b t : Bool) → t ≡ b → (if b then t else not t) ≡ true
both true true same = refl
both true false same = same
both false true same = ap not same
both false false same = refl

same : (b t : Bool) → (if b then t else not t) ≡ true → t ≡ b
same true t is = is
same false true is = sym is
same false false is = refl

-- an assignment makes it true where its atoms are as in the set
pub assumed_true : (values set : List Bool)
    → ((atom : ℕ) → 1 ≤ atom → atom < length set → truth values atom ≡ has set atom)
    → All (IsTrueIn values) (assumed_for set)
assumed_true values set alike k d within =
    let low : k < length set - 1 = omega (arith, within, count set) in
    subst (IsTrueIn values) (sym (literal_at set k d low))
    (literal_truth values set (1 + k)
    ∙ both (has set (1 + k)) (truth values (1 + k))
    (alike (1 + k) (omega arith) (omega (arith, low))))

-- and only there
pub assumed_says : (values set : List Bool) → All (IsTrueIn values) (assumed_for set)
    → (atom : ℕ) → 1 ≤ atom → atom < length set → truth values atom ≡ has set atom
assumed_says values set all atom first last =
    let low : atom - 1 < length set - 1 = omega (arith, first, last) in
    let next : 1 + (atom - 1) ≡ atom = omega (arith, first) in
    let here : IsTrueIn values (literal_in set (1 + (atom - 1))) =
    subst (IsTrueIn values) (literal_at set (atom - 1) (positive 0) low)
    (all (atom - 1) (positive 0) (omega (arith, low, count set))) in
    subst (λ it. truth values it ≡ has set it) next
    (same (has set (1 + (atom - 1))) (truth values (1 + (atom - 1)))
    (sym (literal_truth values set (1 + (atom - 1))) ∙ here))

-- ---- how they are written

-- one literal more
pub next_literal : (set : List Bool) (atom : ℕ) (lit : Lit) → 1 ≤ atom → lit ≡ literal_in set atom
    → map (literal_in set) (range_with_len 1 (atom - 1)) ++ lit ∷ []
    ≡ map (literal_in set) (range_with_len 1 (atom + 1 - 1))
next_literal set atom lit first is =
    let next : atom - 1 + 1 ≡ atom + 1 - 1 = omega (arith, first) in
    ap (λ it. map (literal_in set) (range_with_len 1 (atom - 1)) ++ it ∷ []) is
    ∙ sym (map-range_with_len_more (literal_in set) 1 (atom - 1) atom (omega (arith, first)))
    ∙ ap (λ n. map (literal_in set) (range_with_len 1 n)) next
