-- Bodies weigh more in more atoms, and it is decided whether a rule holds.
use Rattle.std.proofs.Common.{◌≡◌, ◌≢◌, ◌≤◌, ◌⊎◌, inl, inr, ℕ, suc, zero, Bool, true, false, not}
use Rattle.std.proofs.Common.{List, [], ◌∷◌, get_or, All, Any, sum_by, if◌then◌else◌, arith, refl}
use Rattle.std.proofs.Common.{sym, ap, ◌∙◌, subst, true≢false}
use Rattle.std.specs.Prelude.{◌↔◌}
use Rattle.std.proofs.lemmas.Bool.{cases_lt}
use Rattle.std.proofs.lemmas.List.Elements.{All-nil, All-cons, All-head, All-tail}
use Rattle.std.proofs.lemmas.List.Sums.{sum_by-cons}
use Rattle.ground_program.specs.declared.program.Kind.{Kind}
use Rattle.ground_program.specs.declared.program.Kind.TheVariants.{Basic, Constraint, Choice}
use Rattle.ground_program.specs.declared.program.Kind.TheVariants.{Weight, Disjunctive}
use Rattle.ground_program.specs.declared.program.AtomLit.{AtomLit}
use Rattle.ground_program.specs.declared.program.Rule.{Rule}
use Rattle.ground_program.specs.declared.program.Program.{Program}
use Rattle.ground_program.specs.Meaning.{has, IsIn, counts, weight_in, BodyHolds, HeadHolds, Keeps}
use Rattle.ground_program.specs.Meaning.{KeepsAll, SomeFails, IsPart, HasNoChoice, IsAnswerSet}
use Rattle.ground_program.specs.Meaning.{IsProperSubset}

-- a fact is decided
abbrev pub IsDecided : Type 0 → Type 0
IsDecided fact = fact ⊎ (¬ fact)

-- what weighs no more at each item weighs no more in sum
sum-le : {X : Type 0} (f g : X → ℕ) → ((x : X) → f x ≤ g x) → (xs : List X)
    → sum_by f xs ≤ sum_by g xs
sum-le f g each [] = omega arith
sum-le f g each (x ∷ xs) =
    let here = each x in
    let rest = sum-le f g each xs in
    omega (arith, sum_by-cons f x xs, sum_by-cons g x xs)

if-le : (a b : Bool) (weight : ℕ) → (a ≡ true → b ≡ true)
    → (if a then weight else 0) ≤ (if b then weight else 0)
if-le true true weight more = omega arith
if-le true false weight more = absurd (true≢false (sym (more refl)))
if-le false true weight more = omega arith
if-le false false weight more = omega arith

-- a literal that counts still counts with more atoms in the set, and with fewer in the one that
-- negative literals go by
not-more : (a b : Bool) → (b ≡ true → a ≡ true) → not a ≡ true → not b ≡ true
not-more true b fewer is = cc
not-more false true fewer is = absurd (true≢false (sym (fewer refl)))
not-more false false fewer is = refl

counts-if : (negated by by' part whole : Bool) → (by' ≡ true → by ≡ true)
    → (part ≡ true → whole ≡ true)
    → (if negated then not by else part) ≡ true → (if negated then not by' else whole) ≡ true
counts-if true by by' part whole fewer more is = not-more by by' fewer is
counts-if false by by' part whole fewer more is = more is

pub counts-mono : (by by' part whole : List Bool) (lit : AtomLit) → IsPart by' by
    → IsPart part whole
    → counts by part lit ≡ true → counts by' whole lit ≡ true
counts-mono by by' part whole lit fewer more =
    counts-if lit.negated (has by lit.atom) (has by' lit.atom) (has part lit.atom)
    (has whole lit.atom) (fewer lit.atom) (more lit.atom)

-- a body that holds still holds with more atoms in the set, and with fewer in the one that negative
-- literals go by
pub BodyHolds-both : (by by' part whole : List Bool) (rule : Rule) → IsPart by' by
    → IsPart part whole
    → BodyHolds by part rule → BodyHolds by' whole rule
BodyHolds-both by by' part whole rule fewer more holds =
    let weighs = sum-le (weight_in by part) (weight_in by' whole)
    (λ each. if-le (counts by part each.lit) (counts by' whole each.lit) each.weight
    (counts-mono by by' part whole each.lit fewer more)) rule.body in
    omega (arith, holds, weighs)

-- a body that holds still holds with more atoms in the set
pub BodyHolds-mono : (by part whole : List Bool) (rule : Rule) → IsPart part whole
    → BodyHolds by part rule → BodyHolds by whole rule
BodyHolds-mono by part whole rule more holds =
    BodyHolds-both by by part whole rule (λ atom here. here) more holds

pub BodyHolds-decided : (by set : List Bool) (rule : Rule) → IsDecided (BodyHolds by set rule)
BodyHolds-decided by set rule =
    elim (cases_lt (sum_by (weight_in by set) rule.body) rule.bound)
    [ inl below ↦ inr (λ holds. omega (arith, below, holds)) | inr holds ↦ inl holds ]

-- a fact that is decided of each item is decided of all, and of some
All-step : {X : Type 0} (P : X → Type 0) (x : X) (xs : List X) → IsDecided (P x)
    → IsDecided (All P xs) → IsDecided (All P (x ∷ xs))
All-step P x xs (inl here) (inl rest) = inl (All-cons P x xs here rest)
All-step P x xs (inl here) (inr rest) = inr (λ all. rest (All-tail P x xs all))
All-step P x xs (inr here) rest = inr (λ all. here (All-head P x xs all))

pub All-decided : {X : Type 0} (P : X → Type 0) → ((x : X) → IsDecided (P x)) → (xs : List X)
    → IsDecided (All P xs)
All-decided P each [] = inl (All-nil P)
All-decided P each (x ∷ xs) = All-step P x xs (each x) (All-decided P each xs)

-- some item where not all are
Any-head : {X : Type 0} (P : X → Type 0) (x : X) (xs : List X) → P x → Any P (x ∷ xs)
Any-head P x xs here = (0, x, omega arith, refl, here)

Any-tail : {X : Type 0} (P : X → Type 0) (x : X) (xs : List X) → Any P xs → Any P (x ∷ xs)
Any-tail P x xs (k, y, below, is, here) = (suc k, y, omega (arith, below), is, here)

Any-none : {X : Type 0} (P : X → Type 0) → ¬ Any P []
Any-none P (k, y, below, is, here) = omega (arith, below)

Any-or : {X : Type 0} (P : X → Type 0) (x : X) (xs : List X) → Any P (x ∷ xs) → P x ⊎ Any P xs
Any-or P x xs (zero, y, below, is, here) = inl (subst P (sym is) here)
Any-or P x xs (suc k, y, below, is, here) = inr (k, y, omega (arith, below), is, here)

Any-step : {X : Type 0} (P : X → Type 0) (x : X) (xs : List X) → IsDecided (P x)
    → IsDecided (Any P xs) → IsDecided (Any P (x ∷ xs))
Any-step P x xs (inl here) rest = inl (Any-head P x xs here)
Any-step P x xs (inr here) (inl rest) = inl (Any-tail P x xs rest)
Any-step P x xs (inr here) (inr rest) =
    inr (λ some. elim (Any-or P x xs some) [ inl now ↦ here now | inr later ↦ rest later ])

pub Any-decided : {X : Type 0} (P : X → Type 0) → ((x : X) → IsDecided (P x)) → (xs : List X)
    → IsDecided (Any P xs)
Any-decided P each [] = inr (Any-none P)
Any-decided P each (x ∷ xs) = Any-step P x xs (each x) (Any-decided P each xs)

is-true-decided : (b : Bool) → IsDecided (b ≡ true)
is-true-decided true = inl refl
is-true-decided false = inr (λ is. true≢false (sym is))

pub IsIn-decided : (set : List Bool) (atom : ℕ) → IsDecided (IsIn set atom)
IsIn-decided set atom = is-true-decided (has set atom)

implies-decided : (P Q : Type 0) → IsDecided P → IsDecided Q → IsDecided (P → Q)
implies-decided P Q p (inl q) = inl (λ _. q)
implies-decided P Q (inl p) (inr q) = inr (λ f. q (f p))
implies-decided P Q (inr p) (inr q) = inl (λ here. absurd (p here))

pub HeadHolds-decided : (kind : Kind) (by set : List Bool) (heads : List ℕ)
    → IsDecided (HeadHolds kind by set heads)
HeadHolds-decided Basic by set heads = All-decided (IsIn set) (IsIn-decided set) heads
HeadHolds-decided Constraint by set heads = All-decided (IsIn set) (IsIn-decided set) heads
HeadHolds-decided Choice by set heads =
    All-decided (λ atom. IsIn by atom → IsIn set atom)
    (λ atom. implies-decided (IsIn by atom) (IsIn set atom) (IsIn-decided by atom)
    (IsIn-decided set atom)) heads
HeadHolds-decided Weight by set heads = All-decided (IsIn set) (IsIn-decided set) heads
HeadHolds-decided Disjunctive by set heads = Any-decided (IsIn set) (IsIn-decided set) heads

pub Keeps-decided : (by set : List Bool) (rule : Rule) → IsDecided (Keeps by set rule)
Keeps-decided by set rule =
    implies-decided (BodyHolds by set rule) (HeadHolds rule.kind by set rule.heads)
    (BodyHolds-decided by set rule) (HeadHolds-decided rule.kind by set rule.heads)

-- some item fails where not all hold
fails-step : {X : Type 0} (P : X → Type 0) (x : X) (xs : List X) → IsDecided (P x)
    → ¬ All P (x ∷ xs)
    → (¬ All P xs → Any (λ y. ¬ P y) xs) → Any (λ y. ¬ P y) (x ∷ xs)
fails-step P x xs (inl here) fails later =
    Any-tail (λ y. ¬ P y) x xs (later (λ rest. fails (All-cons P x xs here rest)))
fails-step P x xs (inr here) fails later = Any-head (λ y. ¬ P y) x xs here

Any-fails : {X : Type 0} (P : X → Type 0) → ((x : X) → IsDecided (P x)) → (xs : List X) → ¬ All P xs
    → Any (λ x. ¬ P x) xs
Any-fails P each [] fails = absurd (fails (All-nil P))
Any-fails P each (x ∷ xs) fails = fails-step P x xs (each x) fails (Any-fails P each xs)

pub SomeFails-from : (by set : List Bool) (rules : List Rule) → ¬ KeepsAll by set rules
    → SomeFails by set rules
SomeFails-from by set rules fails = Any-fails (Keeps by set) (Keeps-decided by set) rules fails

pub fails-not_all : (by set : List Bool) (rules : List Rule) → SomeFails by set rules
    → ¬ KeepsAll by set rules
fails-not_all by set rules (k, rule, below, is, fails) keeps =
    fails (subst (Keeps by set) is (keeps k rule below))

pub some_fails : (by set : List Bool) (rules : List Rule)
    → (SomeFails by set rules ↔ ¬ KeepsAll by set rules)
some_fails by set rules = (fails-not_all by set rules, SomeFails-from by set rules)

-- the heads of a rule that is no choice rule hold whatever the reduct is made by
head-same : (kind : Kind) (by by' set : List Bool) (heads : List ℕ) → kind ≢ Choice
    → HeadHolds kind by set heads → HeadHolds kind by' set heads
head-same Basic by by' set heads other holds = holds
head-same Constraint by by' set heads other holds = holds
head-same Choice by by' set heads other holds = absurd (other refl)
head-same Weight by by' set heads other holds = holds
head-same Disjunctive by by' set heads other holds = holds

-- a rule that is kept by a smaller set is kept by a larger one, but for choice rules
keeps-by-more : (by more set : List Bool) (rule : Rule) → rule.kind ≢ Choice → IsPart by more
    → Keeps by set rule → Keeps more set rule
keeps-by-more by more set rule other part keeps body =
    head-same rule.kind by more set rule.heads other
    (keeps (BodyHolds-both more by set set rule part (λ atom here. here) body))

cons-decided : (a b : Bool) (xs ys : List Bool) → IsDecided (xs ≡ ys) → IsDecided (a ∷ xs ≡ b ∷ ys)
cons-decided true true xs ys (inl same) = inl (ap (λ zs. true ∷ zs) same)
cons-decided false false xs ys (inl same) = inl (ap (λ zs. false ∷ zs) same)
cons-decided true false xs ys rest = inr (λ same. cc)
cons-decided false true xs ys rest = inr (λ same. cc)
cons-decided true true xs ys (inr other) = inr (λ same. other (cc))
cons-decided false false xs ys (inr other) = inr (λ same. other (cc))

pub sets-decided : (xs ys : List Bool) → IsDecided (xs ≡ ys)
sets-decided [] [] = inl refl
sets-decided [] (y ∷ ys) = inr (λ same. cc)
sets-decided (x ∷ xs) [] = inr (λ same. cc)
sets-decided (x ∷ xs) (y ∷ ys) = cons-decided x y xs ys (sets-decided xs ys)

-- without choice rules an answer set within another keeps the reduct by the other
keeps-within : (program : Program) (one two : List Bool) → HasNoChoice program.rules
    → KeepsAll one one program.rules
    → IsPart one two → KeepsAll two one program.rules
keeps-within program one two none keeps part k rule below =
    keeps-by-more one two one (get_or program.rules k rule) (none k rule below) part
    (keeps k rule below)

pub least-same : (program : Program) (one two : List Bool) → HasNoChoice program.rules
    → IsAnswerSet program one → IsAnswerSet program two → IsPart one two → one ≡ two
least-same program one two none first second part =
    elim (sets-decided one two) [
      | inl same ↦ same
      | inr other ↦
          let proper : IsProperSubset one two = record {
            positions = first.over.positions ∙ sym second.over.positions;
            inside = part;
            other = other;
          } in
          absurd
          (fails-not_all two one program.rules (second.least one proper)
          (keeps-within program one two none first.keeps part))
    ]
