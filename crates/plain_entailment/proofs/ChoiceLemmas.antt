-- What holds with each choice of selectors, selector by selector.
use Rattle.std.proofs.Common.{◌≡◌, ◌-◌, ◌<◌, ◌≤◌, Bool, true, false, List, [], ◌∷◌, ◌++◌, length}
use Rattle.std.proofs.Common.{take, drop, get_or, Result, Ok, Err, IfOk, arith, refl, sym, ap₂, ◌∙◌}
use Rattle.std.proofs.Common.{subst, true≢false, take_all, append_assoc, append-nil}
use Rattle.std.specs.Prelude.{◌↔◌, IsTrue}
use Rattle.clause_store.specs.declared.literal.Lit.{Lit}
use Rattle.clause_store.specs.Clause.{HoldsIn}
use Rattle.plain_entailment.specs.Search.{HoldsWithChoices}

-- a list with an item is its first item and the rest
pub first_and_rest : {X : Type 0} (xs : List X) (x : X) → 1 ≤ length xs → x ≡ get_or xs 0 x
    → xs ≡ x ∷ take (length xs - 1) (drop 1 xs)
first_and_rest [] x some first = absurd (omega arith)
first_and_rest (y ∷ ys) x some first = ap₂ ◌∷◌ (sym first) (sym (take_all _ ys (omega arith)))

-- what was told of lists that were read is told of the lists themselves
pub told_of : (told : Bool) (read values : List Bool) (read_clause clause : List Lit)
    → read ≡ values → read_clause ≡ clause
    → (IsTrue told ↔ HoldsIn read read_clause) → (IsTrue told ↔ HoldsIn values clause)
told_of told read values read_clause clause same same_clause is =
    let P : List Bool → Type 0 = λ some. IsTrue told ↔ HoldsIn some clause in
    let Q : List Lit → Type 0 = λ some. IsTrue told ↔ HoldsIn read some in
    subst P same (subst Q same_clause is)

module _ (base : List Bool) (clause : List Lit) where
  -- a choice that comes after some values, with its first selector among the values or not
  joined : (values chosen : List Bool) (on : Bool) → HoldsIn ((values ++ on ∷ []) ++ chosen) clause
      → HoldsIn (values ++ on ∷ chosen) clause
  joined values chosen on holds =
      let P : List Bool → Type 0 = λ some. HoldsIn some clause in
      subst P (append_assoc values (on ∷ []) chosen) holds

  parted : (values chosen : List Bool) (on : Bool) → HoldsIn (values ++ on ∷ chosen) clause
      → HoldsIn ((values ++ on ∷ []) ++ chosen) clause
  parted values chosen on holds =
      let P : List Bool → Type 0 = λ some. HoldsIn some clause in
      subst P (sym (append_assoc values (on ∷ []) chosen)) holds

  -- with no selector left there is one choice
  at_end : (values : List Bool) → HoldsIn values clause → HoldsWithChoices base [] clause values
  at_end values holds [] fits =
      let P : List Bool → Type 0 = λ some. HoldsIn some clause in
      subst P (sym (append-nil values)) holds
  at_end values holds (on ∷ chosen) fits = absurd fits

  from_end : (values : List Bool) → HoldsWithChoices base [] clause values → HoldsIn values clause
  from_end values every =
      let P : List Bool → Type 0 = λ some. HoldsIn some clause in
      subst P (append-nil values) (every [] tt)

  -- the first selector may have a value that it may have
  with_value : (any : List Lit) (rest : List (List Lit)) (values : List Bool) (on : Bool)
      → (IsTrue on → HoldsIn base any)
      → HoldsWithChoices base (any ∷ rest) clause values
      → HoldsWithChoices base rest clause (values ++ on ∷ [])
  with_value any rest values on fit every =
      λ chosen fits. parted values chosen on (every (on ∷ chosen) (fit, fits))

  -- the first selector is off, or on where its disjunction is true
  either_value : (any : List Lit) (rest : List (List Lit)) (values : List Bool)
      → HoldsWithChoices base rest clause (values ++ false ∷ [])
      → (HoldsIn base any → HoldsWithChoices base rest clause (values ++ true ∷ []))
      → HoldsWithChoices base (any ∷ rest) clause values
  either_value any rest values off on [] fits = absurd fits
  either_value any rest values off on (false ∷ chosen) fits =
      joined values chosen false (off chosen fits.1)
  either_value any rest values off on (true ∷ chosen) fits =
      joined values chosen true (on (fits.0 refl) chosen fits.1)

  from_off : (all : List (List Lit)) (any : List Lit) (rest : List (List Lit))
      (values off : List Bool)
      → all ≡ any ∷ rest → off ≡ values ++ false ∷ []
      → HoldsWithChoices base all clause values → HoldsWithChoices base rest clause off
  from_off all any rest values off split is every =
      let P : List (List Lit) → Type 0 = λ some. HoldsWithChoices base some clause values in
      let Q : List Bool → Type 0 = λ some. HoldsWithChoices base rest clause some in
      subst Q (sym is)
      (with_value any rest values false (λ never. absurd (true≢false (sym never)))
      (subst P split every))

  to_all : (all : List (List Lit)) (any : List Lit) (rest : List (List Lit))
      (values off : List Bool)
      → all ≡ any ∷ rest → off ≡ values ++ false ∷ [] → HoldsWithChoices base rest clause off
      → (HoldsIn base any → HoldsWithChoices base rest clause (values ++ true ∷ []))
      → HoldsWithChoices base all clause values
  to_all all any rest values off split is holds on =
      let P : List (List Lit) → Type 0 = λ some. HoldsWithChoices base some clause values in
      let Q : List Bool → Type 0 = λ some. HoldsWithChoices base rest clause some in
      subst P (sym split) (either_value any rest values (subst Q is holds) on)

  -- what the search answers at the end
  pub end_exactly : (none : List (List Lit)) (values : List Bool) (said : Bool) → length none < 1
      → (IsTrue said ↔ HoldsIn values clause)
      → (IsTrue said ↔ HoldsWithChoices base none clause values)
  end_exactly [] values said empty is =
      (λ told. at_end values (is.0 told), λ every. is.1 (from_end values every))
  end_exactly (any ∷ rest) values said empty is = absurd (omega (arith, empty))

  -- what it answers where the clause fails with the first selector off
  pub off_fails : (all : List (List Lit)) (any : List Lit) (rest : List (List Lit))
      (values off : List Bool) (said : Bool)
      → all ≡ any ∷ rest → off ≡ values ++ false ∷ [] → said ≡ false
      → (IsTrue said ↔ HoldsWithChoices base rest clause off)
      → (IsTrue false ↔ HoldsWithChoices base all clause values)
  off_fails all any rest values off said split is fails holds = (
    λ never. absurd (true≢false (sym never)),
    λ every. sym fails ∙ holds.1 (from_off all any rest values off split is every),
  )

  -- what it answers where the first selector can't be on
  pub on_never : (all : List (List Lit)) (any : List Lit) (rest : List (List Lit))
      (values off : List Bool) (said told : Bool)
      → all ≡ any ∷ rest → off ≡ values ++ false ∷ [] → said ≡ true
      → (IsTrue said ↔ HoldsWithChoices base rest clause off)
      → told ≡ false → (IsTrue told ↔ HoldsIn base any)
      → (IsTrue true ↔ HoldsWithChoices base all clause values)
  on_never all any rest values off said told split is holds_off off_is never tells = (
    λ always. to_all all any rest values off split is (off_is.0 holds_off)
        (λ met. absurd (true≢false (sym (tells.1 met) ∙ never))),
    λ every. refl,
  )

  -- what it answers where it can
  pub on_exactly : {E : Type 0} (result : Result Bool E) (all : List (List Lit)) (any : List Lit)
      (rest : List (List Lit))
      (values off on : List Bool) (said told : Bool) → all ≡ any ∷ rest → off ≡ values ++ false ∷ []
      → said ≡ true
      → (IsTrue said ↔ HoldsWithChoices base rest clause off) → told ≡ true
      → (IsTrue told ↔ HoldsIn base any)
      → on ≡ values ++ true ∷ [] →
      IfOk result (λ last. IsTrue last ↔ HoldsWithChoices base rest clause on)
      → IfOk result (λ last. IsTrue last ↔ HoldsWithChoices base all clause values)
  on_exactly (Ok last) all any rest values off on said told split is holds_off off_is met tells
      on_is last_is =
      let P : List (List Lit) → Type 0 = λ some. HoldsWithChoices base some clause values in
      let Q : List Bool → Type 0 = λ some. HoldsWithChoices base rest clause some in (
        λ holds. to_all all any rest values off split is (off_is.0 holds_off)
            (λ here. subst Q on_is (last_is.0 holds)),
        λ every. last_is.1
            (subst Q (sym on_is)
            (with_value any rest values true (λ chosen. tells.0 met) (subst P split every))),
      )
  on_exactly (Err cause) all any rest values off on said told split is holds_off off_is met tells
      on_is last_is = tt
