-- What going back leaves: a front of the trail, in which literals have the values and levels that
-- they had.
use Rattle.std.proofs.Common.{◌≡◌, ℕ, suc, ◌<◌, ◌≤◌, Bool, true, false, cond, eqb, get_or, List, []}
use Rattle.std.proofs.Common.{◌∷◌, ◌++◌, Option, Some, None, refl, sym, ap, ◌∙◌, inl, inr, arith}
use Rattle.std.specs.Prelude.{All, AllPairs, IsSomeAnd, find, filter, nat_le, option_map}
use Rattle.std.proofs.lemmas.Bool.{cases_Bool, cases_lt, eqb-true, le-leb, lt-leb, ne_eqb}
use Rattle.std.proofs.lemmas.List.Elements.{All-cons, All-nil, All-head, All-tail, All-filter}
use Rattle.std.proofs.lemmas.List.Elements.{All-weaker}
use Rattle.std.proofs.lemmas.Option.{same_Some}
use Rattle.clause_store.specs.declared.literal.ClauseRef.{ClauseRef}
use Rattle.clause_store.specs.declared.step.Step.{Step}
use Rattle.clause_store.specs.Clause.{variable}
use Rattle.clause_store.specs.Trail.{RisesFrom, next_level, step_of, value_by, up_to}
use Rattle.clause_store.specs.Laws.{ValuesAfterBack, FrontAfterBack, BackTwice}
use Rattle.clause_store.proofs.StepLemmas.{find_none, none_found}

-- ---- finding among those that a filter keeps

-- what is found and kept is found again
find_kept : {X : Type 0} (p keeps : X → Bool) (xs : List X) (x : X) → find p xs ≡ Some x
    → keeps x ≡ true → find p (filter keeps xs) ≡ Some x
find_kept p keeps [] x found kept = absurd (cc)
find_kept p keeps (y ∷ xs) x found kept =
    elim (cases_Bool (p y)) [
      | inl passes ↦
          let it : y ≡ x =
          same_Some y x (sym (ap (λ b. cond b (Some y) (find p xs)) passes) ∙ found) in
          rw (ap keeps it ∙ kept, passes) (ap Some it)
      | inr fails ↦
          let later : find p (filter keeps xs) ≡ Some x =
          find_kept p keeps xs x (sym (ap (λ b. cond b (Some y) (find p xs)) fails) ∙ found)
          kept in
          elim (cases_Bool (keeps y))
          [ inl stays ↦ rw (stays, fails) later | inr goes ↦ rw goes later ]
    ]

-- where one alone passes, and it isn't kept, nothing is found
find_dropped : {X : Type 0} (p keeps : X → Bool) (xs : List X) (x : X)
    → AllPairs (λ one two. p one ≡ true → p two ≡ false) xs → find p xs ≡ Some x → keeps x ≡ false
    → find p (filter keeps xs) ≡ None
find_dropped p keeps [] x once found dropped = absurd (cc)
find_dropped p keeps (y ∷ xs) x once found dropped =
    elim (cases_Bool (p y)) [
      | inl passes ↦
          let it : y ≡ x =
          same_Some y x (sym (ap (λ b. cond b (Some y) (find p xs)) passes) ∙ found) in
          rw (ap keeps it ∙ dropped)
          (find_none p (filter keeps xs)
          (All-filter keeps (λ z. p z ≡ false) xs
          (λ k d inside. once 0 (suc k) d (omega arith) (omega arith) passes)))
      | inr fails ↦
          let later : find p (filter keeps xs) ≡ None =
          find_dropped p keeps xs x
          (λ i j d before inside. once (suc i) (suc j) d (omega arith) (omega arith))
          (sym (ap (λ b. cond b (Some y) (find p xs)) fails) ∙ found) dropped in
          elim (cases_Bool (keeps y))
          [ inl stays ↦ rw (stays, fails) later | inr goes ↦ rw goes later ]
    ]

-- ---- the front of a trail

next_above : (level : ℕ) (reason : Option ClauseRef) → level ≤ next_level level reason
next_above level None = omega arith
next_above level (Some why) = omega arith

-- no assignment is of a lower level than those before it
pub rises_above : (level : ℕ) (steps : List Step) → RisesFrom level steps
    → All (λ step. level ≤ step.level) steps
rises_above level [] rises = All-nil (λ step. level ≤ step.level)
rises_above level (step ∷ rest) rises =
    let first : level ≤ step.level = omega (arith, next_above level step.reason, rises.0) in
    All-cons (λ s. level ≤ s.level) step rest first
    (All-weaker (λ s. step.level ≤ s.level) (λ s. level ≤ s.level) (λ s higher. omega arith) rest
    (rises_above step.level rest rises.1))

-- none of a higher level stays
pub none_up_to : (level : ℕ) (steps : List Step) → All (λ step. level < step.level) steps
    → up_to level steps ≡ []
none_up_to level [] above = refl
none_up_to level (step ∷ rest) above =
    rw (lt-leb step.level level (All-head (λ s. level < s.level) step rest above))
    (none_up_to level rest (All-tail (λ s. level < s.level) step rest above))

-- the assignments of the levels up to one come first
up_to_is_front : (level start : ℕ) (steps : List Step) → RisesFrom start steps
    → (rest : List Step) × (steps ≡ up_to level steps ++ rest)
up_to_is_front level start [] rises = ([], refl)
up_to_is_front level start (step ∷ rest) rises =
    elim (cases_lt level step.level) [
      | inl higher ↦ (
        step ∷ rest,
        sym (ap (λ front. front ++ step ∷ rest)
            (none_up_to level (step ∷ rest)
            (All-cons (λ s. level < s.level) step rest higher
            (All-weaker (λ s. step.level ≤ s.level) (λ s. level < s.level) (λ s more. omega arith)
            rest (rises_above step.level rest rises.1))))),
      )
      | inr low ↦
          let later = up_to_is_front level step.level rest rises.1 in
          (later.0, rw (le-leb step.level level low) (ap (λ s. step ∷ s) later.1))
    ]

pub front_after_back : FrontAfterBack
front_after_back trail level is = up_to_is_front level 0 trail.steps is.levels

pub back_twice : BackTwice
back_twice low high [] below = refl
back_twice low high (step ∷ rest) below =
    elim (cases_lt high step.level) [
      | inl higher ↦ rw (lt-leb step.level high higher, lt-leb step.level low (omega arith))
          (back_twice low high rest below)
      | inr lower ↦
          rw (le-leb step.level high lower)
          (ap (λ later. cond (nat_le step.level low) (step ∷ later) later)
          (back_twice low high rest below))
    ]

-- ---- values

-- an assignment of that level or before is still found
pub step_of_up_to : (level : ℕ) (steps : List Step) (var : ℕ) (step : Step)
    → step_of steps var ≡ Some step → step.level ≤ level
    → step_of (up_to level steps) var ≡ Some step
step_of_up_to level steps var step found low =
    find_kept (λ s. eqb (variable s.lit) var) (λ s. nat_le s.level level) steps step found
    (le-leb step.level level low)

pub values_after_back : ValuesAfterBack
values_after_back trail level lit is =
    let it = go (step_of trail.steps (variable lit)) refl in
    record {
      kept = λ assigned. ap (λ o. value_by o lit) (it.0 assigned);
      unset = λ other. ap (λ o. value_by o lit) (it.1 other);
      same_level = λ assigned. ap (option_map (λ step. step.level)) (it.0 assigned);
    }
  where
    names : Step → Bool
    names step = eqb (variable step.lit) (variable lit)

    keeps : Step → Bool
    keeps step = nat_le step.level level

    once :
        AllPairs
        (λ one two. eqb (variable one.lit) (variable lit) ≡ true
        → eqb (variable two.lit) (variable lit) ≡ false) trail.steps
    once i j d before inside first =
        ne_eqb (variable (get_or trail.steps j d).lit) (variable lit)
        (λ second. is.once i j d before inside
        (eqb-true (variable (get_or trail.steps i d).lit) (variable lit) first ∙ sym second))

    go : (o : Option Step) → step_of trail.steps (variable lit) ≡ o
        → (IsSomeAnd (option_map (λ step. step.level) o) (λ at. at ≤ level)
        → step_of (up_to level trail.steps) (variable lit) ≡ o)
        × (¬ IsSomeAnd (option_map (λ step. step.level) o) (λ at. at ≤ level)
        → step_of (up_to level trail.steps) (variable lit) ≡ None)
    go None found = (
      λ assigned. absurd assigned,
      λ other. find_none names (up_to level trail.steps)
          (All-filter keeps (λ step. names step ≡ false) trail.steps
          (none_found names trail.steps found)),
    )
    go (Some step) found =
        elim (cases_lt level step.level) [
          | inl above ↦ (
            λ assigned. absurd (omega (arith, assigned, above)),
            λ other. find_dropped names keeps trail.steps step once found
                (lt-leb step.level level above),
          )
          | inr by ↦ (
            λ assigned. step_of_up_to level trail.steps (variable lit) step found by,
            λ other. absurd (other by),
          )
        ]
