-- Sets of atoms: parts, single writes and equality.
use Rattle.std.proofs.Common.{◌≡◌, ℕ, ◌<◌, Bool, true, false, not, List, length, set, arith, ⊎_elim}
use Rattle.std.proofs.Common.{sym, ◌∙◌, refl, cond}
use Rattle.std.proofs.lemmas.Bool.{cases_eq}
use Rattle.std.proofs.lemmas.List.{ext_get_or, get_or-set_other}
use Rattle.std.proofs.lemmas.List.Sums.{sum_by-set}
use Rattle.ground_program.specs.Meaning.{IsPart, IsIn, has, missing}

-- two truth values that are true together are the same
same_bits : (a b : Bool) → (a ≡ true → b ≡ true) → (b ≡ true → a ≡ true) → a ≡ b
same_bits true b forth back = sym (forth refl)
same_bits false true forth back = back refl
same_bits false false forth back = refl

-- two sets over the same positions that are parts of each other are the same
pub same_sets : (a b : List Bool) → length a ≡ length b → IsPart a b → IsPart b a → a ≡ b
same_sets a b positions forth back =
    ext_get_or false a b positions
    (λ atom _. same_bits (has a atom) (has b atom) (forth atom) (back atom))

-- a set with one more atom is part of each set that has the atom and the rest
pub added_is_part : (before other : List Bool) (head : ℕ) → IsPart before other → IsIn other head
    → IsPart (set before head true) other
added_is_part before other head part here atom known =
    ⊎_elim (λ (same : atom ≡ head). rw same here)
    (λ (apart : atom ≡ head → ⊥). part atom
    (sym (get_or-set_other before head atom true false apart) ∙ known))
    (cases_eq atom head)

-- one more atom leaves fewer positions false
pub missing-added : (before : List Bool) (head : ℕ) → head < length before → has before head ≡ false
    → missing (set before head true) < missing before
missing-added before head within out =
    let total = sum_by-set (λ (bit : Bool). cond (not bit) 1 0) before head true false within in
    let less = rw out at total in
    omega (arith, less)
