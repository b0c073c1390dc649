-- Where atoms and bodies are entered, list by list.
use Rattle.std.proofs.Common.{◌≡◌, ◌≤◌, ◌<◌, ◌+◌, ◌*◌, ℕ, suc, List, [], ◌∷◌, ◌++◌, length}
use Rattle.std.proofs.Common.{get_or, set, refl, sym, zero}
use Rattle.std.proofs.Common.{◌∙◌, subst, ap, inl, inr, arith, Some, slice_get, replicate}
use Rattle.std.proofs.Common.{length-set}
use Rattle.std.specs.Prelude.{◌⊎◌, ◌↔◌, Any, Contains, IsSomeAnd}
use Rattle.std.proofs.lemmas.Bool.{cases_Bool, cases_eq, cases_lt}
use Rattle.std.proofs.lemmas.List.{get_or-set_same, get_or-set_other, get_or-replicate}
use Rattle.std.proofs.lemmas.List.{get_or_past, length-replicate}
use Rattle.std.proofs.lemmas.List.Elements.{Contains-append_left, Contains-append_right}
use Rattle.std.proofs.lemmas.List.Elements.{Contains-append_cases}
use Rattle.std.proofs.lemmas.List.Quantifiers.{Any-push}
use Rattle.std.proofs.lemmas.Option.{slice_get_past}
use Rattle.item_list.proofs.ListLemmas.{Any-append_left}
use Rattle.clause_store.proofs.LiteralLemmas.{any_from}
use Rattle.ground_program.specs.declared.program.AtomLit.{AtomLit}
use Rattle.normal_program.specs.declared.normal.Part.{Part}
use Rattle.normal_program.specs.declared.normal.BodyOf.{BodyOf}
use Rattle.normal_program.specs.declared.normal.NormalRule.{NormalRule}
use Rattle.normal_program.specs.Clauses.{literal_of}
use Rattle.unfounded_sets.specs.Placed.{Has, StandsAt, IsOccurrence, IsHeadIn, ArePut, AreJust}

-- ---- the items of a list with one more

pub only_one : {X : Type 0} (y x : X) → Contains (y ∷ []) x → x ≡ y
only_one y x (zero, low, at) = sym at
only_one y x (suc k, low, at) = absurd (omega (arith, low))

pub contains_last : {X : Type 0} (xs : List X) (y : X) → Contains (xs ++ y ∷ []) y
contains_last xs y = Contains-append_right xs (y ∷ []) y (0, omega arith, refl)

pub Any-push_cases : {X : Type 0} (P : X → Type 0) (xs : List X) (y : X) → Any P (xs ++ y ∷ [])
    → Any P xs ⊎ P y
Any-push_cases P xs y (k, x, low, at, p) =
    elim (Contains-append_cases xs (y ∷ []) x (k, low, at)) [
      | inl left ↦ inl (any_from P xs x left p)
      | inr last ↦ inr (subst P (only_one y x last) p)
    ]

pub nothing_in : {X : Type 0} (P : X → Type 0) → ¬ Any P []
nothing_in P (k, x, low, at, p) = absurd (omega (arith, low))

-- ---- what is put

pub put_none : (P : ℕ → ℕ → Type 0) (lists : List (List ℕ))
    → ((place number : ℕ) → ¬ P place number) → ArePut P lists lists
put_none P lists never = record {
  same = refl;
  each = λ place number. (
    λ has. inl has,
    λ either. elim either [ inl has ↦ has | inr put ↦ absurd (never place number put) ],
  );
}

pub put_more : (P Q R : ℕ → ℕ → Type 0) (old mid new : List (List ℕ)) → ArePut P old mid
    → ArePut Q mid new
    → ((place number : ℕ) → R place number ↔ (P place number ⊎ Q place number))
    → ArePut R old new
put_more P Q R old mid new first then are = record {
  same = then.same ∙ first.same;
  each = λ place number. (
    λ has. elim ((then.each place number).0 has) [
      | inl mid_has ↦ elim ((first.each place number).0 mid_has) [
        | inl old_has ↦ inl old_has
        | inr put ↦ inr ((are place number).1 (inl put))
      ]
      | inr put ↦ inr ((are place number).1 (inr put))
    ],
    λ either. elim either [
      | inl old_has ↦ (then.each place number).1 (inl ((first.each place number).1 (inl old_has)))
      | inr put ↦ elim ((are place number).0 put) [
        | inl one ↦ (then.each place number).1 (inl ((first.each place number).1 (inr one)))
        | inr two ↦ (then.each place number).1 (inr two)
      ]
    ],
  );
}

pub just_none : (P : ℕ → ℕ → Type 0) (count : ℕ) → ((place number : ℕ) → ¬ P place number)
    → AreJust P count (replicate count [])
just_none P count never = record {
  size = length-replicate count [];
  each = λ place number. (
    λ (has : Has (replicate count []) place number). absurd (empty place has),
    λ put. absurd (never place number put),
  );
}
  where
    nil : List ℕ
    nil = []

    at_place : (place : ℕ) → get_or (replicate count nil) place nil ≡ nil
    at_place place =
        elim (cases_lt place count) [
          | inl low ↦ get_or-replicate count place nil nil low
          | inr past ↦
              get_or_past (replicate count nil) place nil
              (omega (arith, past, length-replicate count nil))
        ]

    empty : {number : ℕ} (place : ℕ) → Has (replicate count []) place number → ⊥
    empty place (k, low, at) =
        omega (arith, low, ap length (at_place place))

pub just_more : (P Q R : ℕ → ℕ → Type 0) (count : ℕ) (old new : List (List ℕ)) → AreJust P count old
    → ArePut Q old new
    → ((place number : ℕ) → R place number ↔ (P place number ⊎ Q place number))
    → AreJust R count new
just_more P Q R count old new first then are = record {
  size = then.same ∙ first.size;
  each = λ place number. (
    λ has. elim ((then.each place number).0 has) [
      | inl old_has ↦ (are place number).1 (inl ((first.each place number).0 old_has))
      | inr put ↦ (are place number).1 (inr put)
    ],
    λ put. elim ((are place number).0 put) [
      | inl one ↦ (then.each place number).1 (inl ((first.each place number).1 one))
      | inr two ↦ (then.each place number).1 (inr two)
    ],
  );
}

pub just_same : (P Q : ℕ → ℕ → Type 0) (count : ℕ) (lists : List (List ℕ)) → AreJust P count lists
    → ((place number : ℕ) → P place number ↔ Q place number) → AreJust Q count lists
just_same P Q count lists first are = record {
  size = first.size;
  each = λ place number. (
    λ has. (are place number).0 ((first.each place number).0 has),
    λ put. (first.each place number).1 ((are place number).1 put),
  );
}

-- a number is put last in the list at a place
pub put_last : (lists : List (List ℕ)) (place number : ℕ) (list new : List ℕ)
    → place < length lists → list ≡ get_or lists place [] → new ≡ list ++ number ∷ []
    → ArePut (λ at item. (at ≡ place) × (item ≡ number)) lists (set lists place new)
put_last lists place number list new within is grown = record {
  same = length-set lists place new;
  each = λ at item. elim (cases_eq at place) [
    | inl here ↦ at_place at item here
    | inr other ↦ elsewhere at item other
  ];
}
  where
    there : get_or (set lists place new) place [] ≡ get_or lists place [] ++ number ∷ []
    there =
        get_or-set_same lists place new [] within ∙ grown
        ∙ ap (λ (one : List ℕ). one ++ number ∷ []) is

    at_place : (at item : ℕ) → at ≡ place → Has (set lists place new) at item
        ↔ (Has lists at item ⊎ ((at ≡ place) × (item ≡ number)))
    at_place at item here = (
      λ has. elim
          (Contains-append_cases (get_or lists place []) (number ∷ []) item
          (subst (λ (xs : List ℕ). Contains xs item) there
          (subst (λ one. Has (set lists place new) one item) here has))) [
            | inl old ↦ inl (subst (λ one. Has lists one item) (sym here) old)
            | inr last ↦ inr (here, only_one number item last)
          ],
      λ either.
          subst (λ one. Has (set lists place new) one item) (sym here)
          (subst (λ (xs : List ℕ). Contains xs item) (sym there)
          (elim either [
            | inl old ↦
                Contains-append_left (get_or lists place []) (number ∷ []) item
                (subst (λ one. Has lists one item) here old)
            | inr new ↦
                subst (Contains (get_or lists place [] ++ number ∷ [])) (sym new.1)
                (contains_last (get_or lists place []) number)
          ])),
    )

    elsewhere : (at item : ℕ) → (at ≡ place → ⊥) → Has (set lists place new) at item
        ↔ (Has lists at item ⊎ ((at ≡ place) × (item ≡ number)))
    elsewhere at item other =
        let same : get_or (set lists place new) at [] ≡ get_or lists at [] =
        get_or-set_other lists place at new [] other in (
          λ has. inl (subst (λ (xs : List ℕ). Contains xs item) same has),
          λ either. elim either [
            | inl old ↦ subst (λ (xs : List ℕ). Contains xs item) (sym same) old
            | inr new ↦ absurd (other new.0)
          ],
        )

-- ---- one more of each kind

pub part_step : (number : ℕ) (parts : List Part) (part : Part) (place item : ℕ)
    → ((item ≡ number) × StandsAt (parts ++ part ∷ []) place)
    ↔ (((item ≡ number) × StandsAt parts place)
    ⊎ ((place ≡ (literal_of part.lit).0) × (item ≡ number)))
part_step number parts part place item = (
  λ (same, stands).
      elim (Any-push_cases (λ (one : Part). (literal_of one.lit).0 ≡ place) parts part stands) [
        | inl before ↦ inl (same, before)
        | inr last ↦ inr (sym last, same)
      ],
  λ either. elim either [
    | inl before ↦ (
      before.0,
      Any-append_left (λ (one : Part). (literal_of one.lit).0 ≡ place) parts (part ∷ []) before.1,
    )
    | inr last ↦ (
      last.1,
      Any-push (λ (one : Part). (literal_of one.lit).0 ≡ place) parts part (sym last.0),
    )
  ],
)

pub head_step : (body : ℕ) (heads : List ℕ) (head : ℕ) (place item : ℕ)
    → ((place ≡ body) × Contains (heads ++ head ∷ []) item)
    ↔ (((place ≡ body) × Contains heads item) ⊎ ((place ≡ body) × (item ≡ head)))
head_step body heads head place item = (
  λ (same, has). elim (Contains-append_cases heads (head ∷ []) item has) [
    | inl before ↦ inl (same, before)
    | inr last ↦ inr (same, only_one head item last)
  ],
  λ either. elim either [
    | inl before ↦ (before.0, Contains-append_left heads (head ∷ []) item before.1)
    | inr last ↦ (
      last.0,
      subst (Contains (heads ++ head ∷ [])) (sym last.1) (contains_last heads head),
    )
  ],
)

pub support_step : (body : ℕ) (heads : List ℕ) (head : ℕ) (place item : ℕ)
    → ((item ≡ body) × Contains (heads ++ head ∷ []) place)
    ↔ (((item ≡ body) × Contains heads place) ⊎ ((place ≡ head) × (item ≡ body)))
support_step body heads head place item = (
  λ (same, has). elim (Contains-append_cases heads (head ∷ []) place has) [
    | inl before ↦ inl (same, before)
    | inr last ↦ inr (only_one head place last, same)
  ],
  λ either. elim either [
    | inl before ↦ (before.0, Contains-append_left heads (head ∷ []) place before.1)
    | inr last ↦ (
      last.1,
      subst (Contains (heads ++ head ∷ [])) (sym last.0) (contains_last heads head),
    )
  ],
)

pub rule_step : (rules : List NormalRule) (rule : NormalRule) (number atom : ℕ)
    → IsHeadIn (rules ++ rule ∷ []) number atom
    ↔ (IsHeadIn rules number atom ⊎ ((number ≡ rule.body) × Contains rule.heads atom))
rule_step rules rule number atom = (
  λ some.
      elim
      (Any-push_cases (λ (one : NormalRule). (one.body ≡ number) × Contains one.heads atom) rules
      rule some) [
        | inl before ↦ inl before
        | inr last ↦ inr (sym last.0, last.1)
      ],
  λ either. elim either [
    | inl before ↦
        Any-append_left (λ (one : NormalRule). (one.body ≡ number) × Contains one.heads atom) rules
        (rule ∷ []) before
    | inr last ↦
        Any-push (λ (one : NormalRule). (one.body ≡ number) × Contains one.heads atom) rules rule
        (sym last.0, last.1)
  ],
)

pub body_step : (bodies : List BodyOf) (at : ℕ) (body : BodyOf) → slice_get bodies at ≡ Some body
    → (code number : ℕ)
    → ((number < at + 1) × IsOccurrence bodies code number)
    ↔ (((number < at) × IsOccurrence bodies code number)
    ⊎ ((number ≡ at) × StandsAt body.parts code))
body_step bodies at body here code number = (
  λ (low, occurs). elim (cases_eq number at) [
    | inl same ↦ inr (same, there same occurs)
    | inr other ↦ inl (omega (arith, low, other), occurs)
  ],
  λ either. elim either [
    | inl before ↦ (omega (arith, before.0), before.1)
    | inr last ↦ (
      omega (arith, last.0),
      subst (IsOccurrence bodies code) (sym last.0)
          (subst (λ o. IsSomeAnd o (λ (one : BodyOf). StandsAt one.parts code)) (sym here) last.1),
    )
  ],
)
  where
    there : number ≡ at → IsOccurrence bodies code number → StandsAt body.parts code
    there same occurs =
        subst (λ o. IsSomeAnd o (λ (one : BodyOf). StandsAt one.parts code)) here
        (subst (IsOccurrence bodies code) same occurs)

pub body_end : (bodies : List BodyOf) (count code number : ℕ) → length bodies ≤ count
    → ((number < count) × IsOccurrence bodies code number) ↔ IsOccurrence bodies code number
body_end bodies count code number is = (
  λ (low, occurs). occurs,
  λ occurs. elim (cases_lt number count) [
    | inl low ↦ (low, occurs)
    | inr past ↦
        absurd
        (subst (λ o. IsSomeAnd o (λ (one : BodyOf). StandsAt one.parts code))
        (slice_get_past bodies number (omega (arith, past, is))) occurs)
  ],
)

-- the code of a literal is at most that of the negation of its atom
pub code_most : (lit : AtomLit) → (literal_of lit).0 ≤ 2 * lit.atom + 1
code_most lit = elim (cases_Bool lit.negated) [
  | inl yes_one ↦ rw yes_one (omega arith)
  | inr no_one ↦ rw no_one (omega arith)
]
