-- What the first broken rule and the first unmet atom say of the whole lists.
use Rattle.std.proofs.Common.{◌≡◌, inl, inr, ℕ, Bool, true, false, not, cond, List, [], ◌∷◌, All}
use Rattle.std.proofs.Common.{Option, Some, None, MatchOption, arith, refl, sym, ◌∙◌, true≢false}
use Rattle.std.specs.List.{find}
use Rattle.std.proofs.lemmas.List.Elements.{All-nil, All-cons, All-tail}
use Rattle.ground_program.specs.declared.program.Kind.TheVariants.{Basic}
use Rattle.ground_program.specs.declared.program.Rule.{Rule}
use Rattle.ground_program.specs.declared.program.Program.{Program}
use Rattle.ground_program.specs.Meaning.{has, IsIn, KeepsAll, MeetsCompute}
use Rattle.ground_program.specs.Models.{IsFirstFailing, IsFirstUnmet}

step-none : (b : Bool) (x : ℕ) (rest : Option ℕ) → cond b (Some x) rest ≡ None
    → (b ≡ false) × (rest ≡ None)
step-none true x rest none = cc
step-none false x rest none = (refl, none)

step-some : (b : Bool) (x y : ℕ) (rest : Option ℕ) → cond b (Some x) rest ≡ Some y → b ≡ false
    → rest ≡ Some y
step-some true x y rest some off = cc
step-some false x y rest some off = some

-- nothing is found where no item passes
find-none : (p : ℕ → Bool) (xs : List ℕ) → find p xs ≡ None → All (λ x. p x ≡ false) xs
find-none p [] none = All-nil (λ x. p x ≡ false)
find-none p (x ∷ xs) none =
    let step = step-none (p x) x (find p xs) none in
    All-cons (λ x. p x ≡ false) x xs step.0 (find-none p xs step.1)

-- what is found passes
find-some : (p : ℕ → Bool) (xs : List ℕ) (y : ℕ) → find p xs ≡ Some y → ¬ All (λ x. p x ≡ false) xs
find-some p [] y some none = cc
find-some p (x ∷ xs) y some none =
    find-some p xs y (step-some (p x) x y (find p xs) some (none 0 x (omega arith)))
    (All-tail (λ x. p x ≡ false) x xs none)

not-false : (b : Bool) → not b ≡ false → b ≡ true
not-false true e = refl
not-false false e = cc

not-true : (b : Bool) → b ≡ true → not b ≡ false
not-true true e = refl
not-true false e = cc

false-not : (b : Bool) → ¬ (b ≡ true) → b ≡ false
false-not true e = absurd (e refl)
false-not false e = refl

-- no atom is missing
pub missing-none : (set : List Bool) (atoms : List ℕ)
    → find (λ each. not (has set each)) atoms ≡ None → All (IsIn set) atoms
missing-none set atoms none k d below = not-false _ (find-none _ atoms none k d below)

pub missing-some : (set : List Bool) (atoms : List ℕ) (atom : ℕ)
    → find (λ each. not (has set each)) atoms ≡ Some atom → ¬ All (IsIn set) atoms
missing-some set atoms atom some all =
    find-some _ atoms atom some (λ k d below. not-true _ (all k d below))

-- no atom is present
pub present-none : (set : List Bool) (atoms : List ℕ) → find (has set) atoms ≡ None
    → All (λ atom. ¬ IsIn set atom) atoms
present-none set atoms none k d below =
    λ here. true≢false (sym here ∙ find-none _ atoms none k d below)

pub present-some : (set : List Bool) (atoms : List ℕ) (atom : ℕ) → find (has set) atoms ≡ Some atom
    → ¬ All (λ each. ¬ IsIn set each) atoms
present-some set atoms atom some all =
    find-some _ atoms atom some (λ k d below. false-not _ (all k d below))

-- an unmet atom breaks the compute statement
pub unmet-breaks : (program : Program) (set : List Bool) (atom : ℕ) → IsFirstUnmet program set atom
    → ¬ MeetsCompute program set
unmet-breaks program set atom (inl missing) meets =
    missing-some set program.must atom missing meets.must
unmet-breaks program set atom (inr (all, present)) meets =
    present-some set program.must_not atom present meets.must_not

-- any rule, to read a list of rules with
some_rule : Rule
some_rule = record { kind = Basic; heads = []; bound = 0; body = [] }

-- a failing rule breaks the rules
pub failing-breaks : (set : List Bool) (rules : List Rule) (at : ℕ) → IsFirstFailing set rules at
    → ¬ KeepsAll set set rules
failing-breaks set rules at first keeps = first.fails some_rule (keeps at some_rule first.exists)

-- with no atom missing, the first present one decides
pub present-decides : (program : Program) (set : List Bool) (first : Option ℕ)
    → find (λ each. not (has set each)) program.must ≡ None
    → first ≡ find (has set) program.must_not
    → MatchOption first (MeetsCompute program set) (IsFirstUnmet program set)
present-decides program set None all first = record {
  must = missing-none set program.must all;
  must_not = present-none set program.must_not (sym first);
}
present-decides program set (Some atom) all first =
    inr (missing-none set program.must all, sym first)
