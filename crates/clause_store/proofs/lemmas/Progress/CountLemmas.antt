-- Numbers by their digits, and how many assignments are of a level.
use Rattle.std.proofs.Common.{◌≡◌, ◌≢◌, ℕ, zero, suc, ◌+◌, ◌*◌, ◌^◌, ◌<◌, ◌≤◌}
use Rattle.std.proofs.Common.{eqb, List, [], ◌∷◌, ◌++◌, length, refl, ap, ap₂, ◌∙◌}
use Rattle.std.proofs.Common.{subst}
use Rattle.std.proofs.Common.{inl, inr, arith, length-append}
use Rattle.std.specs.Prelude.{All, filter}
use Rattle.std.proofs.lemmas.Bool.{cases_eq, cases_lt, cases_Bool, eq-eqb, ne_eqb, le-leb, lt-leb}
use Rattle.std.proofs.lemmas.List.Elements.{All-head, All-tail, filter-append}
use Rattle.std.proofs.lemmas.Nat.{mul-le}
use Rattle.std.proofs.Math.Nat.{pow-suc, pow-zero}
use Rattle.clause_store.specs.declared.step.Step.{Step}
use Rattle.clause_store.specs.Trail.{up_to}
use Rattle.clause_store.specs.Progress.{count_at, numeral}

-- ---- numbers by their digits

-- one more on the left is a base more
times_more : (one two base : ℕ) → one < two → one * base + base ≤ two * base
times_more one two base less =
    let whole : (one + 1) * base ≤ two * base =
    mul-le (one + 1) base two base (omega arith) (omega arith) in
    let split : (one + 1) * base ≡ one * base + base = grind arith in
    omega (arith, whole, split)

-- equal digits make equal numbers
pub numeral_same : (base : ℕ) (first second : ℕ → ℕ) (count : ℕ)
    → ((at : ℕ) → at < count → first at ≡ second at)
    → numeral base first count ≡ numeral base second count
unfolding numeral
numeral_same base first second zero same = refl
numeral_same base first second (suc count) same =
    ap₂ (λ n d. n * base + d)
    (numeral_same base first second count (λ at before. same at (omega arith)))
    (same count (omega arith))

-- the first digit that differs decides
pub numeral_less : (base : ℕ) (first second : ℕ → ℕ) (at count : ℕ)
    → ((before : ℕ) → before < at → first before ≡ second before) → first at < second at
    → at < count
    → ((place : ℕ) → place < count → first place < base)
    → numeral base first count < numeral base second count
unfolding numeral
numeral_less base first second at zero same less within small = absurd (omega (arith, within))
numeral_less base first second at (suc count) same less within small =
    elim (cases_eq at count) [
      | inl last ↦
          let front : numeral base first count ≡ numeral base second count =
          numeral_same base first second count (λ before lower. same before (omega arith)) in
          let higher : first count < second count =
          subst (λ n. first n < second n) last less in
          let equal : numeral base first count * base ≡ numeral base second count * base =
          ap (λ n. n * base) front in
          omega (arith, equal, higher)
      | inr other ↦
          let front : numeral base first count < numeral base second count =
          numeral_less base first second at count same less (omega (arith, within, other))
          (λ place lower. small place (omega arith)) in
          let more = times_more (numeral base first count) (numeral base second count) base front in
          let last : first count < base = small count (omega arith) in
          omega (arith, more, last)
    ]

-- a number of so many digits is below that power
pub numeral_small : (base : ℕ) (digits : ℕ → ℕ) (count : ℕ)
    → ((at : ℕ) → at < count → digits at < base) → numeral base digits count < base ^ count
unfolding numeral
numeral_small base digits zero small = let one : base ^ 0 ≡ 1 = pow-zero base in omega (arith, one)
numeral_small base digits (suc count) small =
    let front : numeral base digits count < base ^ count =
    numeral_small base digits count (λ at lower. small at (omega arith)) in
    let more = times_more (numeral base digits count) (base ^ count) base front in
    let last : digits count < base = small count (omega arith) in
    let power : base ^ suc count ≡ base ^ count * base = pow-suc base count in
    omega (arith, more, last, power)

-- ---- how many assignments are of a level

pub count_append : (steps added : List Step) (level : ℕ)
    → count_at (steps ++ added) level ≡ count_at steps level + count_at added level
count_append steps added level =
    ap length (filter-append (λ s. eqb s.level level) steps added)
    ∙ length-append (filter (λ s. eqb s.level level) steps) (filter (λ s. eqb s.level level) added)

pub count_none : (steps : List Step) (level : ℕ) → All (λ step. step.level ≢ level) steps
    → count_at steps level ≡ 0
count_none [] level none = refl
count_none (step ∷ rest) level none =
    rw (ne_eqb step.level level (All-head (λ s. s.level ≢ level) step rest none))
    (count_none rest level (All-tail (λ s. s.level ≢ level) step rest none))

pub count_first : (step : Step) (rest : List Step) → 1 ≤ count_at (step ∷ rest) step.level
count_first step rest = rw (eq-eqb step.level step.level refl) (omega arith)

pub count_few : (steps : List Step) (level : ℕ) → count_at steps level ≤ length steps
count_few [] level = omega arith
count_few (step ∷ rest) level =
    let later : count_at rest level ≤ length rest = count_few rest level in
    elim (cases_Bool (eqb step.level level)) [
      | inl here ↦ rw here (omega (arith, later))
      | inr other ↦ rw other (omega (arith, later))
    ]

-- going back leaves the levels up to one as they are
pub count_up_to : (level : ℕ) (steps : List Step) (low : ℕ) → low ≤ level
    → count_at (up_to level steps) low ≡ count_at steps low
count_up_to level [] low below = refl
count_up_to level (step ∷ rest) low below =
    let later : count_at (up_to level rest) low ≡ count_at rest low =
    count_up_to level rest low below in
    elim (cases_lt level step.level) [
      | inl higher ↦ rw (lt-leb step.level level higher, ne_eqb step.level low (λ e. omega arith))
          later
      | inr lower ↦ rw (le-leb step.level level lower) (elim (cases_Bool (eqb step.level low)) [
        | inl here ↦ rw here (ap suc later)
        | inr other ↦ rw other later
      ])
    ]
