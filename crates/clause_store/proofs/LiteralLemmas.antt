-- Literals: negating twice gives the literal back, literals can be told apart, and lists have them
-- or not.
use Rattle.std.proofs.Common.{◌≡◌, ◌≢◌, ◌⊎◌, ℕ, zero, suc, ◌+◌, ◌-◌, ◌%◌, Bool, true, false, not}
use Rattle.std.proofs.Common.{eqb, List, [], ◌∷◌, map, get_or, refl, sym, ap, ◌∙◌, subst, inl, inr}
use Rattle.std.proofs.Common.{arith}
use Rattle.std.specs.Prelude.{All, Any, Contains, filter, flat_map}
use Rattle.std.proofs.lemmas.Bool.{cases_Bool, cases_eq, eqb-true, eqb-false, eq-eqb, ne_eqb}
use Rattle.std.proofs.lemmas.List.Elements.{All-cons, All-contains, All-nil, filter_passes}
use Rattle.std.proofs.lemmas.List.Elements.{Contains-append_left, Contains-append_right}
use Rattle.clause_store.specs.declared.literal.Lit.{Lit}
use Rattle.clause_store.specs.Clause.{variable, is_negated, negation}

-- the literal of a code
abbrev pub coded : ℕ → Lit
coded code = record { 0 = code }

pub lit_of_code : (one two : Lit) → one.0 ≡ two.0 → one ≡ two
lit_of_code one two same = ap coded same

pub cases_lit : (one two : Lit) → (one ≡ two) ⊎ (one ≢ two)
cases_lit one two =
    elim (cases_eq one.0 two.0) [
      | inl same ↦ inl (lit_of_code one two same)
      | inr other ↦ inr
          (λ e. other (ap (λ l. l.0) e))
    ]

pub variable-negation : (lit : Lit) → variable (negation lit) ≡ variable lit
variable-negation lit =
    elim (cases_Bool (eqb (lit.0 % 2) 1)) [
      | inl odd ↦ let e : lit.0 % 2 ≡ 1 = eqb-true (lit.0 % 2) 1 odd in rw odd (omega arith)
      | inr even ↦ let e : lit.0 % 2 ≢ 1 = eqb-false (lit.0 % 2) 1 even in rw even (omega arith)
    ]

pub is_negated-negation : (lit : Lit) → is_negated (negation lit) ≡ not (is_negated lit)
is_negated-negation lit =
    elim (cases_Bool (eqb (lit.0 % 2) 1)) [
      | inl odd ↦ let e : lit.0 % 2 ≡ 1 = eqb-true (lit.0 % 2) 1 odd in
          rw odd (ne_eqb ((lit.0 - 1) % 2) 1 (λ h. omega arith))
      | inr even ↦ let e : lit.0 % 2 ≢ 1 = eqb-false (lit.0 % 2) 1 even in
          rw even (eq-eqb ((lit.0 + 1) % 2) 1 (omega arith))
    ]

pub negation-negation : (lit : Lit) → negation (negation lit) ≡ lit
negation-negation lit =
    lit_of_code (negation (negation lit)) lit
    (elim (cases_Bool (eqb (lit.0 % 2) 1)) [
      | inl odd ↦ let e : lit.0 % 2 ≡ 1 = eqb-true (lit.0 % 2) 1 odd in
          let h : eqb ((lit.0 - 1) % 2) 1 ≡ false = ne_eqb ((lit.0 - 1) % 2) 1 (λ h. omega arith) in
          rw (odd, h) (omega arith)
      | inr even ↦ let e : lit.0 % 2 ≢ 1 = eqb-false (lit.0 % 2) 1 even in
          let h : eqb ((lit.0 + 1) % 2) 1 ≡ true = eq-eqb ((lit.0 + 1) % 2) 1 (omega arith) in
          rw (even, h) (omega arith)
    ])

-- ---- elements of lists

pub has_first : {X : Type 0} (x : X) (xs : List X) → Contains (x ∷ xs) x
has_first x xs = (0, omega arith, refl)

pub has_later : {X : Type 0} (x y : X) (xs : List X) → Contains xs y → Contains (x ∷ xs) y
has_later x y xs (k, within, is) = (suc k, omega arith, is)

pub first_or_later : {X : Type 0} (x y : X) (xs : List X) → Contains (x ∷ xs) y
    → (x ≡ y) ⊎ Contains xs y
first_or_later x y xs (zero, within, is) = inl is
first_or_later x y xs (suc k, within, is) = inr (k, omega arith, is)

pub cases_has : (xs : List Lit) (lit : Lit) → Contains xs lit ⊎ (Contains xs lit → ⊥)
cases_has [] lit = inr (λ h. absurd (omega (arith, h.1)))
cases_has (x ∷ xs) lit =
    elim (cases_lit x lit) [
      | inl same ↦ inl (0, omega arith, same)
      | inr other ↦ elim (cases_has xs lit) [
        | inl later ↦ inl (has_later x lit xs later)
        | inr lacks ↦ inr
            (λ h. elim (first_or_later x lit xs h) [ inl e ↦ other e | inr l ↦ lacks l ])
      ]
    ]

pub has_kept : {X : Type 0} (p : X → Bool) (xs : List X) (x : X) → Contains xs x → p x ≡ true
    → Contains (filter p xs) x
has_kept p [] x h keeps = absurd (omega (arith, h.1))
has_kept p (y ∷ xs) x h keeps =
    elim (first_or_later y x xs h) [
      | inl e ↦ let passes : p y ≡ true = ap p e ∙ keeps in rw passes (0, omega arith, e)
      | inr later ↦ elim (cases_Bool (p y)) [
        | inl passes ↦ rw passes (has_later y x (filter p xs) (has_kept p xs x later keeps))
        | inr fails ↦ rw fails (has_kept p xs x later keeps)
      ]
    ]

pub kept_passes : {X : Type 0} (p : X → Bool) (xs : List X) (x : X) → Contains (filter p xs) x
    → p x ≡ true
kept_passes p xs x h = All-contains (λ y. p y ≡ true) (filter p xs) x (filter_passes p xs) h

pub has_mapped : {X Y : Type 0} (f : X → Y) (xs : List X) (x : X) → Contains xs x
    → Contains (map f xs) (f x)
has_mapped f [] x h = absurd (omega (arith, h.1))
has_mapped f (y ∷ xs) x h =
    elim (first_or_later y x xs h) [
      | inl e ↦ (0, omega arith, ap f e)
      | inr later ↦ has_later (f y) (f x) (map f xs) (has_mapped f xs x later)
    ]

-- an element of the mapped list is the image of one
pub mapped_from : {X Y : Type 0} (f : X → Y) (xs : List X) (y : Y) → Contains (map f xs) y
    → (x : X) × Contains xs x × (f x ≡ y)
mapped_from f [] y h = absurd (omega (arith, h.1))
mapped_from f (x ∷ xs) y h =
    elim (first_or_later (f x) y (map f xs) h) [
      | inl e ↦ (x, has_first x xs, e)
      | inr later ↦ let m = mapped_from f xs y later in (m.0, has_later x m.0 xs m.1, m.2)
    ]

-- what is true of each element of a list is true of each element of its parts
pub all_through : {X : Type 0} (P : X → Type 0) (xs ys : List X) → All (Contains ys) xs → All P ys
    → All P xs
all_through P xs ys inside all k d within =
    All-contains P ys (get_or xs k d) all (inside k d within)

pub any_through : {X : Type 0} (P Q : X → Type 0) (xs ys : List X) → All (Contains ys) xs
    → ((x : X) → P x → Q x) → Any P xs → Any Q ys
any_through P Q xs ys inside implies (k, x, within, is, p) =
    let there : Contains ys x = All-contains (Contains ys) xs x inside (k, within, is) in
    (there.0, x, there.1, there.2, implies x p)

pub any_from : {X : Type 0} (P : X → Type 0) (xs : List X) (x : X) → Contains xs x → P x → Any P xs
any_from P xs x here p = (here.0, x, here.1, here.2, p)

-- a test passes somewhere, or fails everywhere
pub any_or_none : {X : Type 0} (p : X → Bool) (xs : List X)
    → Any (λ x. p x ≡ true) xs ⊎ All (λ x. p x ≡ false) xs
any_or_none p [] = inr (All-nil (λ x. p x ≡ false))
any_or_none p (x ∷ xs) =
    elim (cases_Bool (p x)) [
      | inl passes ↦ inl (any_from (λ x. p x ≡ true) (x ∷ xs) x (has_first x xs) passes)
      | inr fails ↦ elim (any_or_none p xs) [
        | inl some ↦ inl
            (any_from (λ x. p x ≡ true) (x ∷ xs) some.1
            (has_later x some.1 xs (some.0, some.2, some.3)) some.4)
        | inr none ↦ inr (All-cons (λ x. p x ≡ false) x xs fails none)
      ]
    ]

-- an element of one of the lists is one of all of them together
pub has_flat : {X : Type 0} (xss : List (List X)) (xs : List X) (x : X) → Contains xss xs
    → Contains xs x → Contains (flat_map (λ ys. ys) xss) x
has_flat [] xs x here inside = absurd (omega (arith, here.1))
has_flat (ys ∷ xss) xs x here inside =
    elim (first_or_later ys xs xss here) [
      | inl same ↦ Contains-append_left ys (flat_map (λ zs. zs) xss) x
          (subst (λ zs. Contains zs x) (sym same) inside)
      | inr later ↦ Contains-append_right ys (flat_map (λ zs. zs) xss) x
          (has_flat xss xs x later inside)
    ]
