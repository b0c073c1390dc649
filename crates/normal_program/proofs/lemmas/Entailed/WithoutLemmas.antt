-- A set without some atoms.
use Rattle.std.proofs.Common.{◌≡◌, ◌<◌, ℕ, Bool, true, false, eqb, List, [], ◌∷◌, length}
use Rattle.std.proofs.Common.{length-set}
use Rattle.std.proofs.Common.{get_or-set_same, get_or-set_other, slice_set, All, Contains, refl}
use Rattle.std.proofs.Common.{sym}
use Rattle.std.proofs.Common.{subst, ◌∙◌, arith, ⊎_elim}
use Rattle.std.proofs.lemmas.Bool.{cases_eq, cases_Bool, both_ways, eqb-true}
use Rattle.std.proofs.lemmas.List.Elements.{All-head, All-tail, All-contains}
use Rattle.std.proofs.lemmas.List.Folds.{Any-from_list_any}
use Rattle.ground_program.specs.Meaning.{has, IsPart}
use Rattle.clause_store.proofs.LiteralLemmas.{has_first, has_later, first_or_later}
use Rattle.normal_program.specs.Clauses.{has_atom}
use Rattle.normal_program.proofs.lemmas.Base.SupportLemmas.{not-found}

-- an atom that a search finds is there
pub has_atom-Contains : (atoms : List ℕ) (atom : ℕ) → has_atom atoms atom ≡ true
    → Contains atoms atom
has_atom-Contains atoms atom found =
    let some = Any-from_list_any (eqb atom) atoms found in
    subst (Contains atoms) (sym (eqb-true atom some.1 some.4)) (some.0, some.2, some.3)

-- one that it doesn't find isn't there
pub has_atom-missing : (atoms : List ℕ) (atom : ℕ) → has_atom atoms atom ≡ false
    → Contains atoms atom → ⊥
has_atom-missing atoms atom none here =
    All-contains (λ one. one ≡ atom → ⊥) atoms atom (not-found atoms atom none) here refl

-- a set without some atoms
abbrev pub without : List ℕ → List Bool → List Bool
without [] set = set
without (atom ∷ rest) set = slice_set (without rest set) atom false

pub length-without : (atoms : List ℕ) (set : List Bool)
    → length (without atoms set) ≡ length set
length-without [] set = refl
length-without (atom ∷ rest) set =
    length-set (without rest set) atom false ∙ length-without rest set

-- other atoms stay as they are
pub has-without_other : (atoms : List ℕ) (set : List Bool) (other : ℕ)
    → (Contains atoms other → ⊥) → has (without atoms set) other ≡ has set other
has-without_other [] set other apart = refl
has-without_other (atom ∷ rest) set other apart =
    get_or-set_other (without rest set) atom other false false
    (λ same. apart (subst (Contains (atom ∷ rest)) (sym same) (has_first atom rest)))
    ∙ has-without_other rest set other (λ later. apart (has_later atom other rest later))

-- these atoms are out
pub has-without : (atoms : List ℕ) (set : List Bool) (one : ℕ)
    → All (λ atom. atom < length set) atoms → Contains atoms one
    → has (without atoms set) one ≡ false
has-without [] set one within here = absurd (omega (arith, here.1))
has-without (atom ∷ rest) set one within here =
    let low : atom < length set = All-head (λ a. a < length set) atom rest within in
    ⊎_elim
    (λ same. subst (λ a. has (slice_set (without rest set) atom false) a ≡ false) same
    (get_or-set_same (without rest set) atom false false
    (omega (arith, low, length-without rest set))))
    (λ differ. get_or-set_other (without rest set) atom one false false (λ same. differ (sym same))
    ∙ has-without rest set one (All-tail (λ a. a < length set) atom rest within)
    (⊎_elim (λ same. absurd (differ same)) (λ later. later) (first_or_later atom one rest here)))
    (cases_eq atom one)

-- the rest is part of the set
pub without-part : (atoms : List ℕ) (set : List Bool) → All (λ atom. atom < length set) atoms
    → IsPart (without atoms set) set
without-part atoms set within one inside =
    ⊎_elim
    (λ found. absurd
    (both_ways (has (without atoms set) one)
    (has-without atoms set one within (has_atom-Contains atoms one found)) inside))
    (λ none. sym (has-without_other atoms set one (has_atom-missing atoms one none)) ∙ inside)
    (cases_Bool (has_atom atoms one))
