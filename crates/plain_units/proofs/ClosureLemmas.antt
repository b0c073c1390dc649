-- The known literals stay inside the closure, and come nearer to it with each literal.
use Rattle.std.proofs.Common.{◌≡◌, ℕ, ◌+◌, ◌<◌, ◌≤◌, Bool, true, false, cond, eqb, List, [], ◌∷◌}
use Rattle.std.proofs.Common.{◌++◌, get_or, refl, sym, ap, ◌∙◌, subst, inl, inr, arith}
use Rattle.std.specs.Prelude.{◌↔◌, Any, Contains, flat_map}
use Rattle.std.proofs.lemmas.Bool.{eq-eqb, ne_eqb}
use Rattle.std.proofs.lemmas.List.Elements.{All-contains, All-contains_itself, All-weaker}
use Rattle.std.proofs.lemmas.List.Elements.{Contains-append_left, Contains-push_cases}
use Rattle.clause_store.specs.declared.literal.Lit.{Lit}
use Rattle.clause_store.specs.Clause.{negation, HasAll}
use Rattle.clause_store.specs.Entailment.{IsForcedBy, IsClosed, InClosure}
use Rattle.clause_store.proofs.LiteralLemmas.{first_or_later, has_first, has_later, has_flat}
use Rattle.clause_store.proofs.LiteralLemmas.{lit_of_code}
use Rattle.plain_units.specs.Forcing.{IsNewlyForced}

-- the list has `lits`, and nothing that isn't in the closure
abbrev pub IsBelow : List (List Lit) → List Lit → List Lit → Type 0
IsBelow clauses lits known =
    HasAll known lits × ((lit : Lit) → Contains known lit → InClosure clauses lits lit)

-- some clause forces the literal, which isn't known
abbrev pub IsNext : List (List Lit) → List Lit → Lit → Type 0
IsNext clauses known lit = Any (λ clause. IsNewlyForced known clause lit) clauses

pub starts : (clauses : List (List Lit)) (lits : List Lit) → IsBelow clauses lits lits
starts clauses lits = (
  All-contains_itself lits,
  λ lit here known all closed. All-contains (Contains known) lits lit
      all here,
)

drawn : (clauses : List (List Lit)) (lits known : List Lit) (lit : Lit) → IsNext clauses known lit
    → IsBelow clauses lits known → InClosure clauses lits lit
drawn clauses lits known lit (k, clause, within, is, newly) below other all closed =
    All-contains (λ c. (forced : Lit) → IsForcedBy other c forced → Contains other forced) clauses
    clause closed (k, within, is) lit
    (record {
      here = newly.forced.here;
      others =
          λ i d lt differs. below.1 (negation (get_or clause i d))
          (newly.forced.others i d lt differs) other all closed;
    })

pub adds : (clauses : List (List Lit)) (lits known : List Lit) (lit : Lit)
    → IsNext clauses known lit → IsBelow clauses lits known
    → IsBelow clauses lits (known ++ lit ∷ [])
adds clauses lits known lit next below = (
  All-weaker (Contains known) (Contains (known ++ lit ∷ []))
      (λ l. Contains-append_left known (lit ∷ []) l) lits below.0,
  λ l here. elim (Contains-push_cases known lit l here) [
    | inl old ↦ below.1 l old
    | inr same ↦ subst (InClosure clauses lits) same (drawn clauses lits known lit next below)
  ],
)

pub settled : (clauses : List (List Lit)) (lits known : List Lit) → IsBelow clauses lits known
    → IsClosed clauses known → (lit : Lit) → Contains known lit ↔ InClosure clauses lits lit
settled clauses lits known below closed lit = (below.1 lit, λ inside. inside known below.0 closed)

-- ---- the literals that are not known become fewer

-- whether a literal isn't in the list
abbrev pub lacks : List Lit → Lit → Bool
lacks [] lit = true
lacks (first ∷ known) lit = cond (eqb first.0 lit.0) false (lacks known lit)

abbrev pub size : Bool → ℕ
size b = cond b 1 0

-- how many of the literals aren't in the list
abbrev pub lacking : List Lit → List Lit → ℕ
lacking known [] = 0
lacking known (lit ∷ lits) = size (lacks known lit) + lacking known lits

-- how many of the literals of the clauses aren't in the list
abbrev pub missing : List (List Lit) → List Lit → ℕ
missing clauses known = lacking known (flat_map (λ clause. clause) clauses)

swapped : (b c r : Bool) → cond b false (cond c false r) ≡ cond c false (cond b false r)
swapped true true r = refl
swapped true false r = refl
swapped false true r = refl
swapped false false r = refl

lacks_push : (known : List Lit) (lit other : Lit)
    → lacks (known ++ lit ∷ []) other ≡ cond (eqb lit.0 other.0) false (lacks known other)
lacks_push [] lit other = refl
lacks_push (first ∷ known) lit other =
    ap (cond (eqb first.0 other.0) false) (lacks_push known lit other)
    ∙ swapped (eqb first.0 other.0) (eqb lit.0 other.0) (lacks known other)

pub lacks_outside : (known : List Lit) (lit : Lit) → (Contains known lit → ⊥)
    → lacks known lit ≡ true
lacks_outside [] lit out = refl
lacks_outside (first ∷ known) lit out =
    ap (λ b. cond b false (lacks known lit))
    (ne_eqb first.0 lit.0
    (λ same. out
    (subst (Contains (first ∷ known)) (lit_of_code first lit same)
    (has_first first known))))
    ∙ lacks_outside known lit (λ later. out (has_later first lit known later))

less : (c r : Bool) → size (cond c false r) ≤ size r
less true true = omega arith
less true false = omega arith
less false true = omega arith
less false false = omega arith

add_le : (a b c d : ℕ) → a ≤ b → c ≤ d → a + c ≤ b + d
add_le a b c d one two = omega (arith, one, two)

add_lt : (a b c d : ℕ) → a ≤ b → c < d → a + c < b + d
add_lt a b c d one two = omega (arith, one, two)

lt_add : (a b c d : ℕ) → a ≡ 0 → b ≡ 1 → c ≤ d → a + c < b + d
lt_add a b c d none one two = omega (arith, none, one, two)

first_less : (known : List Lit) (lit other : Lit)
    → size (lacks (known ++ lit ∷ []) other) ≤ size (lacks known other)
first_less known lit other =
    subst (λ b. size b ≤ size (lacks known other)) (sym (lacks_push known lit other))
    (less (eqb lit.0 other.0) (lacks known other))

lacking_less : (known lits : List Lit) (lit : Lit)
    → lacking (known ++ lit ∷ []) lits ≤ lacking known lits
lacking_less known [] lit = omega arith
lacking_less known (other ∷ lits) lit =
    add_le (size (lacks (known ++ lit ∷ []) other)) (size (lacks known other))
    (lacking (known ++ lit ∷ []) lits) (lacking known lits)
    (first_less known lit other) (lacking_less known lits lit)

lacking_fewer : (known lits : List Lit) (lit : Lit) → Contains lits lit → lacks known lit ≡ true
    → lacking (known ++ lit ∷ []) lits < lacking known lits
lacking_fewer known [] lit here out = absurd (omega (arith, here.1))
lacking_fewer known (other ∷ lits) lit here out =
    elim (first_or_later other lit lits here) [
      | inl same ↦
          lt_add (size (lacks (known ++ lit ∷ []) other)) (size (lacks known other))
          (lacking (known ++ lit ∷ []) lits) (lacking known lits)
          (ap size
          (lacks_push known lit other
          ∙ ap (λ b. cond b false (lacks known other))
          (eq-eqb lit.0 other.0 (ap (λ l. l.0) (sym same)))))
          (ap size (ap (lacks known) same ∙ out))
          (lacking_less known lits lit)
      | inr later ↦
          add_lt (size (lacks (known ++ lit ∷ []) other)) (size (lacks known other))
          (lacking (known ++ lit ∷ []) lits) (lacking known lits)
          (first_less known lit other) (lacking_fewer known lits lit later out)
    ]

pub nearer : (clauses : List (List Lit)) (known : List Lit) (lit : Lit) → IsNext clauses known lit
    → missing clauses (known ++ lit ∷ []) < missing clauses known
nearer clauses known lit (k, clause, within, is, newly) =
    lacking_fewer known (flat_map (λ c. c) clauses) lit
    (has_flat clauses clause lit (k, within, is) newly.forced.here)
    (lacks_outside known lit newly.new)
