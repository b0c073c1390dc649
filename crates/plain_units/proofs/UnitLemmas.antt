-- Steps of the loops over clauses and over their literals.
use Rattle.std.proofs.Common.{◌≡◌, ◌≢◌, ◌⊎◌, ℕ, ◌+◌, ◌-◌, ◌<◌, ◌≤◌, Bool, true, not, cond, eqb}
use Rattle.std.proofs.Common.{List, [], ◌∷◌, ◌++◌, length, map, take, drop, get_or, sym, ap, ◌∙◌}
use Rattle.std.proofs.Common.{subst, inl, inr, arith}
use Rattle.std.specs.Prelude.{◌↔◌, All, Any, Contains}
use Rattle.std.proofs.lemmas.Bool.{cases_Bool, cases_eq, eq-eqb, iff_false, ne_eqb, not-true}
use Rattle.std.proofs.lemmas.Bool.{not_from_false}
use Rattle.std.proofs.lemmas.List.{append-nil, drop_all, drop_more, get_or-drop, get_or_default}
use Rattle.std.proofs.lemmas.List.{get_or_read, length-drop, map-append, take_all, take_more}
use Rattle.std.proofs.lemmas.List.Elements.{All-contains, All-more, filter-append}
use Rattle.clause_store.specs.declared.literal.Lit.{Lit}
use Rattle.clause_store.specs.Clause.{variable, negation, HasNoVariableTwice}
use Rattle.clause_store.specs.Entailment.{Absorbs, IsForcedBy, InClosure, Refutes, negations}
use Rattle.clause_store.specs.Entailment.{others, IsUnit, AreUnits}
use Rattle.plain_units.specs.Forcing.{HasVariable, IsClosedUnder, IsFalseBy}

-- ---- what holds of each item, as a loop reads it

pub all_more : {X : Type 0} (P : X → Type 0) (xs : List X) (i : ℕ) (x : X) → i < length xs
    → x ≡ get_or xs i x → P x → All P (take i xs) → All P (take (i + 1) xs)
all_more P xs i x within is p all = All-more P xs i x within all (subst P is p)

pub all_read : {X : Type 0} (P : X → Type 0) (xs : List X) (count : ℕ) → length xs ≤ count
    → All P (take count xs) → All P xs
all_read P xs count past all = subst (All P) (take_all count xs past) all

pub not_all : {X : Type 0} (P : X → Type 0) (xs : List X) (i : ℕ) (x : X) → i < length xs
    → x ≡ get_or xs i x → (P x → ⊥) → All P xs → ⊥
not_all P xs i x within is not all = not (All-contains P xs x all (i, within, sym is))

pub not_all_at : {X : Type 0} (P : X → Type 0) (xs : List X) (i : ℕ) (d : X) → i < length xs
    → (P (get_or xs i d) → ⊥) → All P xs → ⊥
not_all_at P xs i d within not all = not (all i d within)

pub some_read : {X : Type 0} (P : X → Type 0) (xs : List X) (i : ℕ) (x : X) → i < length xs
    → x ≡ get_or xs i x → P x → Any P xs
some_read P xs i x within is p = (i, x, within, sym is, p)

pub none_read : {X : Type 0} (P : X → Type 0) (xs : List X) (count : ℕ) → length xs ≤ count
    → All (λ x. P x → ⊥) (take count xs) → Any P xs → ⊥
none_read P xs count past none some =
    All-contains (λ x. P x → ⊥) xs some.1 (all_read (λ x. P x → ⊥) xs count past none)
    (some.0, some.2, some.3) some.4

-- ---- closed under one clause

-- each literal of the list that the clause forces is known
abbrev pub AreKnown : List Lit → List Lit → List Lit → Type 0
AreKnown known clause lits = All (λ lit. IsForcedBy known clause lit → Contains known lit) lits

pub closed_under : (known clause : List Lit) → AreKnown known clause clause
    → IsClosedUnder known clause
closed_under known clause all lit forced =
    All-contains (λ l. IsForcedBy known clause l → Contains known l) clause lit all forced.here
    forced

-- ---- no variable twice

-- the variables before a place aren't found again
abbrev pub AreOnce : List Lit → ℕ → Type 0
AreOnce clause at =
    (i j : ℕ) (d : Lit) → i < j → j < length clause → i < at
    → variable (get_or clause i d) ≢ variable (get_or clause j d)

pub once_more : (clause : List Lit) (at : ℕ) (lit : Lit) → at < length clause
    → lit ≡ get_or clause at lit
    → (HasVariable (drop (at + 1) clause) lit → ⊥) → AreOnce clause at → AreOnce clause (at + 1)
once_more clause at lit inside is none once i j d before within lt same =
    elim (cases_eq i at) [
      | inl e ↦ none (
        place,
        other,
        omega (arith, length-drop (at + 1) clause, before, within, e),
        there e,
        sym same ∙ ap variable (first e),
      )
      | inr differ ↦ once i j d before within (omega (arith, lt, differ)) same
    ]
  where
    place : ℕ
    place = j - (at + 1)

    other : Lit
    other = get_or clause j d

    first : i ≡ at → get_or clause i d ≡ lit
    first e = ap (λ n. get_or clause n d) e ∙ sym (get_or_read clause at lit inside is d)

    back : i ≡ at → at + 1 + (j - (at + 1)) ≡ j
    back e = omega (arith, e, before)

    there : i ≡ at → get_or (drop (at + 1) clause) place other ≡ other
    there e =
        get_or-drop (at + 1) clause place other ∙ ap (λ n. get_or clause n other) (back e)
        ∙ get_or_default clause j other d within

pub once_all : (clause : List Lit) (at : ℕ) → length clause ≤ at → AreOnce clause at
    → HasNoVariableTwice clause
once_all clause at past once i j d before within =
    once i j d before within (omega (arith, past, before, within))

pub not_once : (clause : List Lit) (at : ℕ) (lit : Lit) → at < length clause
    → lit ≡ get_or clause at lit
    → HasVariable (drop (at + 1) clause) lit → HasNoVariableTwice clause → ⊥
not_once clause at lit inside is (k, other, within, here, same) once =
    once at (at + 1 + k) other (omega arith) (omega (arith, within, length-drop (at + 1) clause))
    (ap variable (sym (get_or_read clause at lit inside is other)) ∙ sym same
    ∙ ap variable (sym here ∙ get_or-drop (at + 1) clause k other))

-- ---- the negations of the others

abbrev pub differs : Lit → Lit → Bool
differs lit other = not (eqb other.0 lit.0)

negated_step : (clause : List Lit) (lit : Lit) (i : ℕ) (x : Lit) → i < length clause
    → x ≡ get_or clause i x
    → negations (others (take (i + 1) clause) lit) ≡ negations (others (take i clause) lit)
    ++ negations (others (x ∷ []) lit)
negated_step clause lit i x within is =
    ap (λ l. negations (others l lit))
    (take_more clause i x within ∙ ap (λ y. take i clause ++ y ∷ []) (sym is))
    ∙ ap (map negation) (filter-append (differs lit) (take i clause) (x ∷ []))
    ∙ map-append negation (others (take i clause) lit) (others (x ∷ []) lit)

pub negated_kept : (clause : List Lit) (lit : Lit) (i : ℕ) (x : Lit) → i < length clause
    → x ≡ get_or clause i x → (x.0 ≡ lit.0 → ⊥)
    → negations (others (take (i + 1) clause) lit) ≡ negations (others (take i clause) lit)
    ++ negation x ∷ []
negated_kept clause lit i x within is other =
    negated_step clause lit i x within is
    ∙ ap (λ b. negations (others (take i clause) lit) ++ map negation (cond (not b) (x ∷ []) []))
    (ne_eqb x.0 lit.0 other)

pub negated_left : (clause : List Lit) (lit : Lit) (i : ℕ) (x : Lit) → i < length clause
    → x ≡ get_or clause i x → x.0 ≡ lit.0
    → negations (others (take (i + 1) clause) lit) ≡ negations (others (take i clause) lit)
negated_left clause lit i x within is same =
    negated_step clause lit i x within is
    ∙ ap (λ b. negations (others (take i clause) lit) ++ map negation (cond (not b) (x ∷ []) []))
    (eq-eqb x.0 lit.0 same)
    ∙ append-nil (negations (others (take i clause) lit))

-- ---- refuting by the closure

-- all members of a list are those of the closure
abbrev pub IsClosureOf : List (List Lit) → List Lit → List Lit → Type 0
IsClosureOf clauses lits known = (lit : Lit) → Contains known lit ↔ InClosure clauses lits lit

pub refuted_by : (clauses : List (List Lit)) (lits known : List Lit)
    → IsClosureOf clauses lits known → Any (IsFalseBy known) clauses ↔ Refutes clauses lits
refuted_by clauses lits known is = (
  λ some. (
    some.0,
    some.1,
    some.2,
    some.3,
    λ k d within. (is (negation (get_or some.1 k d))).0 (some.4 k d within),
  ),
  λ some. (
    some.0,
    some.1,
    some.2,
    some.3,
    λ k d within. (is (negation (get_or some.1 k d))).1 (some.4 k d within),
  ),
)

pub refutes_says : (clauses : List (List Lit)) (lits known slice : List Lit) (r : Bool)
    → slice ≡ known → IsClosureOf clauses lits known
    → (r ≡ true) ↔ Any (IsFalseBy slice) clauses → (r ≡ true) ↔ Refutes clauses lits
refutes_says clauses lits known slice r same is says =
    let by : Any (IsFalseBy slice) clauses ↔ Refutes clauses lits =
    refuted_by clauses lits slice (subst (IsClosureOf clauses lits) (sym same) is) in
    (λ yes. by.0 (says.0 yes), λ refuted. says.1 (by.1 refuted))

pub absorbed_says : (clauses : List (List Lit)) (lits given known slice : List Lit) (lit : Lit)
    (r : Bool) → given ≡ lits → slice ≡ known → IsClosureOf clauses given known
    → (r ≡ true) ↔ (Any (IsFalseBy slice) clauses ⊎ Contains slice lit)
    → (r ≡ true) ↔ (Refutes clauses lits ⊎ InClosure clauses lits lit)
absorbed_says clauses lits given known slice lit r whole same is says =
    let of : IsClosureOf clauses lits slice =
    subst (λ l. IsClosureOf clauses l slice) whole
    (subst (IsClosureOf clauses given) (sym same) is) in
    let by : Any (IsFalseBy slice) clauses ↔ Refutes clauses lits =
    refuted_by clauses lits slice of in (
      λ yes. elim (says.0 yes) [ inl some ↦ inl (by.0 some) | inr here ↦ inr ((of lit).0 here) ],
      λ either. says.1
          (elim either [ inl refuted ↦ inl (by.1 refuted) | inr drawn ↦ inr ((of lit).1 drawn) ]),
    )

-- ---- units

pub unit_says : (clauses : List (List Lit)) (unit : List Lit) (absorbed : Bool) → 1 ≤ length unit
    → HasNoVariableTwice unit
    → (absorbed ≡ true) ↔ Absorbs clauses unit → (not absorbed ≡ true) ↔ IsUnit clauses unit
unit_says clauses unit absorbed some once says = (
  λ counts. record { some = some; once = once; new = iff_false says (not-true absorbed counts) },
  λ is. elim (cases_Bool absorbed)
      [ inl hit ↦ absurd (is.new (says.0 hit)) | inr miss ↦ not_from_false absorbed miss ],
)

-- ---- lists of units

-- the list is one of units over the base where the rest is one over the clauses
abbrev pub IsLeft : List (List Lit) → List (List Lit) → List (List Lit) → ℕ → Type 0
IsLeft base list clauses i = AreUnits base list ↔ AreUnits clauses (drop i list)

rest_is : (list : List (List Lit)) (i : ℕ) (unit : List Lit) → i < length list
    → unit ≡ get_or list i unit → drop i list ≡ unit ∷ drop (i + 1) list
rest_is list i unit within is =
    drop_more list i unit within ∙ ap (λ u. u ∷ drop (i + 1) list) (sym is)

pub unit_more : (base list clauses : List (List Lit)) (i : ℕ) (unit : List Lit) → i < length list
    → unit ≡ get_or list i unit
    → IsUnit clauses unit → IsLeft base list clauses i
    → IsLeft base list (clauses ++ unit ∷ []) (i + 1)
unit_more base list clauses i unit within is one left = (
  λ are. (subst (AreUnits clauses) (rest_is list i unit within is) (left.0 are)).1,
  λ are. left.1 (subst (AreUnits clauses) (sym (rest_is list i unit within is)) (one, are)),
)

pub not_units : (base list clauses : List (List Lit)) (i : ℕ) (unit : List Lit) → i < length list
    → unit ≡ get_or list i unit
    → (IsUnit clauses unit → ⊥) → IsLeft base list clauses i → AreUnits base list → ⊥
not_units base list clauses i unit within is none left are =
    none (subst (AreUnits clauses) (rest_is list i unit within is) (left.0 are)).0

pub units_all : (base list clauses : List (List Lit)) (count : ℕ) → length list ≤ count
    → IsLeft base list clauses count → AreUnits base list
units_all base list clauses count past left =
    left.1 (subst (AreUnits clauses) (sym (drop_all count list past)) tt)
