-- How many assignments are open when a variable is marked or an assignment is passed, and what is
-- listed.
use Rattle.std.proofs.Common.{◌≡◌, ◌≢◌, ℕ, suc, ◌+◌, ◌<◌, Bool, true, false, cond, eqb, List, []}
use Rattle.std.proofs.Common.{◌∷◌, ◌++◌, get_or, length, map, set, Some, refl, sym, ap, ap₂, ◌∙◌}
use Rattle.std.proofs.Common.{subst, inl, inr}
use Rattle.std.proofs.Common.{arith, get_or-set_same, get_or-set_other}
use Rattle.std.specs.Prelude.{All, AllPairs, Contains, count_by, ◌&&◌}
use Rattle.std.proofs.lemmas.Bool.{cases_Bool, cases_eq, eqb-true, eqb-false}
use Rattle.std.proofs.lemmas.List.Elements.{All-nil, All-cons, All-head, All-tail}
use Rattle.std.proofs.lemmas.List.Elements.{All-contains, All-contains_itself, All-push}
use Rattle.std.proofs.lemmas.List.Sums.{sum_by-cons}
use Rattle.std.proofs.lemmas.Option.{same_Some}
use Rattle.clause_store.specs.declared.literal.Lit.{Lit}
use Rattle.clause_store.specs.declared.literal.Var.{Var}
use Rattle.clause_store.specs.declared.step.Step.{Step}
use Rattle.clause_store.specs.Clause.{variable, IsOver}
use Rattle.clause_store.proofs.LiteralLemmas.{mapped_from}
use Rattle.clause_store.specs.Trail.{step_of}
use Rattle.conflict_learning.specs.Analysis.{IsVariable}
use Rattle.conflict_learning.specs.Marks.{is_marked, IsMarked, is_open, ListsVariables}

-- other variables keep their marks
pub marked_other : (marks : List Bool) (var other : ℕ) → other ≢ var
    → is_marked (set marks var true) other ≡ is_marked marks other
marked_other marks var other differs = get_or-set_other marks var other true false differs

pub marked_new : (marks : List Bool) (var : ℕ) → var < length marks
    → IsMarked (set marks var true) var
marked_new marks var within = get_or-set_same marks var true false within

-- marks only come
pub marked_kept : (marks : List Bool) (var : ℕ) (other : ℕ) → var < length marks
    → IsMarked marks other → IsMarked (set marks var true) other
marked_kept marks var other within is =
    elim (cases_eq other var) [
      | inl same ↦ subst (λ v. IsMarked (set marks var true) v) (sym same)
          (marked_new marks var within)
      | inr differs ↦ marked_other marks var other differs ∙ is
    ]

-- a mark of another variable than the new one was there before
pub marked_before : (marks : List Bool) (var other : ℕ) → other ≢ var
    → IsMarked (set marks var true) other → IsMarked marks other
marked_before marks var other differs is = sym (marked_other marks var other differs) ∙ is

open_other : (marks : List Bool) (level var : ℕ) (step : Step) → variable step.lit ≢ var
    → is_open (set marks var true) level step ≡ is_open marks level step
open_other marks level var step differs =
    ap (λ b. b && eqb step.level level) (marked_other marks var (variable step.lit) differs)

abbrev pub one_if : Bool → ℕ
one_if b = cond b 1 0

pub count_cons : {X : Type 0} (p : X → Bool) (x : X) (xs : List X)
    → count_by p (x ∷ xs) ≡ one_if (p x) + count_by p xs
count_cons p x xs = sum_by-cons (λ y. cond (p y) 1 0) x xs

-- a variable without an assignment opens none
count_same : (marks : List Bool) (level var : ℕ) (steps : List Step)
    → All (λ step. variable step.lit ≢ var) steps
    → count_by (is_open (set marks var true) level) steps ≡ count_by (is_open marks level) steps
count_same marks level var [] differ = refl
count_same marks level var (step ∷ steps) differ =
    count_cons (is_open (set marks var true) level) step steps
    ∙ ap₂ (λ b n. one_if b + n)
    (open_other marks level var step (All-head (λ s. variable s.lit ≢ var) step steps differ))
    (count_same marks level var steps (All-tail (λ s. variable s.lit ≢ var) step steps differ))
    ∙ sym (count_cons (is_open marks level) step steps)

-- the first assignment is that of the variable
count_first : (marks : List Bool) (level var : ℕ) (steps : List Step) (first : Step)
    → variable first.lit ≡ var → All (λ step. variable step.lit ≢ var) steps
    → is_marked marks var ≡ false
    → var < length marks → count_by (is_open (set marks var true) level) (first ∷ steps)
    ≡ count_by (is_open marks level) (first ∷ steps) + one_if (eqb first.level level)
count_first marks level var steps first same others fresh within =
    let new_one : one_if (is_open (set marks var true) level first)
    ≡ one_if (eqb first.level level) =
    ap (λ b. one_if (b && eqb first.level level))
    (subst (λ v. IsMarked (set marks var true) v) (sym same) (marked_new marks var within)) in
    let old_one : one_if (is_open marks level first) ≡ 0 =
    ap (λ b. one_if (b && eqb first.level level)) (ap (is_marked marks) same ∙ fresh) in
    let rest : count_by (is_open (set marks var true) level) steps
    ≡ count_by (is_open marks level) steps = count_same marks level var steps others in
    omega (
      arith,
      new_one,
      old_one,
      rest,
      count_cons (is_open (set marks var true) level) first steps,
      count_cons (is_open marks level) first steps,
    )

-- another variable comes first
count_later : (marks : List Bool) (level var : ℕ) (steps : List Step) (first : Step) (more : ℕ)
    → variable first.lit ≢ var
    → count_by (is_open (set marks var true) level) steps
    ≡ count_by (is_open marks level) steps + more
    → count_by (is_open (set marks var true) level) (first ∷ steps)
    ≡ count_by (is_open marks level) (first ∷ steps) + more
count_later marks level var steps first more other rest =
    let one : one_if (is_open (set marks var true) level first)
    ≡ one_if (is_open marks level first) =
    ap one_if (open_other marks level var first other) in
    omega (
      arith,
      one,
      rest,
      count_cons (is_open (set marks var true) level) first steps,
      count_cons (is_open marks level) first steps,
    )

-- the new mark opens the assignment of its variable, if that is of the level
pub count_marked : (marks : List Bool) (level var : ℕ) (steps : List Step) (step : Step)
    → AllPairs (λ one two. variable one.lit ≢ variable two.lit) steps
    → step_of steps var ≡ Some step → is_marked marks var ≡ false → var < length marks
    → count_by (is_open (set marks var true) level) steps
    ≡ count_by (is_open marks level) steps + one_if (eqb step.level level)
count_marked marks level var [] step once found fresh within = absurd (cc)
count_marked marks level var (first ∷ steps) step once found fresh within =
    elim (cases_Bool (eqb (variable first.lit) var)) [
      | inl test ↦
          let same : variable first.lit ≡ var = eqb-true (variable first.lit) var test in
          let it : first ≡ step =
          same_Some first step
          (sym (ap (λ b. cond b (Some first) (step_of steps var)) test) ∙ found) in
          subst
          (λ s. count_by (is_open (set marks var true) level) (first ∷ steps)
          ≡ count_by (is_open marks level) (first ∷ steps) + one_if (eqb s.level level)) it
          (count_first marks level var steps first same
          (λ k d inside e. once 0 (suc k) d (omega arith) (omega arith) (same ∙ sym e)) fresh
          within)
      | inr test ↦
          count_later marks level var steps first (one_if (eqb step.level level))
          (eqb-false (variable first.lit) var test)
          (count_marked marks level var steps step
          (λ i j d before inside. once (suc i) (suc j) d (omega arith) (omega arith))
          (sym (ap (λ b. cond b (Some first) (step_of steps var)) test) ∙ found) fresh within)
    ]

-- where none is counted none passes
pub none_counted : {X : Type 0} (p : X → Bool) (xs : List X) → count_by p xs ≡ 0
    → All (λ x. p x ≡ false) xs
none_counted p [] none = All-nil (λ x. p x ≡ false)
none_counted p (x ∷ xs) none =
    elim (cases_Bool (p x)) [
      | inl passes ↦ let one : one_if (p x) ≡ 1 = ap one_if passes in
          absurd (omega (arith, none, one, count_cons p x xs))
      | inr fails ↦ All-cons (λ y. p y ≡ false) x xs fails
          (none_counted p xs (omega (arith, none, count_cons p x xs)))
    ]

-- where none passes none is counted
pub count_none : {X : Type 0} (p : X → Bool) (xs : List X) → All (λ x. p x ≡ false) xs
    → count_by p xs ≡ 0
count_none p [] none = refl
count_none p (x ∷ xs) none =
    let first : one_if (p x) ≡ 0 = ap one_if (All-head (λ y. p y ≡ false) x xs none) in
    omega (arith, first, count_cons p x xs, count_none p xs (All-tail (λ y. p y ≡ false) x xs none))

-- one variable more is listed
pub lists_more : (lits : List Lit) (old mid new : List Var) (lit : Lit) (var : Var)
    → ListsVariables lits old mid → Contains lits lit → var.0 ≡ variable lit
    → new ≡ mid ++ var ∷ [] → ListsVariables lits old new
lists_more lits old mid new lit var lists here is pushed vars over before =
    let one = All-contains (IsOver vars) lits lit over here in
    subst (All (IsVariable vars)) (sym pushed)
    (All-push (IsVariable vars) mid var (lists vars over before)
    (record { first = omega (arith, one.first, is); last = omega (arith, one.last, is) }))

-- the variables of all assignments are in range
pub steps_over : (vars : ℕ) (steps : List Step) → All (λ step. IsOver vars step.lit) steps
    → All (IsOver vars) (map (λ step. step.lit) steps)
steps_over vars steps over k d inside =
    let from =
    mapped_from (λ step. step.lit) steps (get_or (map (λ step. step.lit) steps) k d)
    (All-contains_itself (map (λ step. step.lit) steps) k d inside) in
    subst (IsOver vars) from.2
    (All-contains (λ step. IsOver vars step.lit) steps from.0 over from.1)
