-- The marks of a draft go with its literals.
use Rattle.std.proofs.Common.{◌≡◌, ◌≢◌, ◌≤◌, ◌<◌, ◌+◌, ℕ, zero, suc, Bool, true, false, ◌||◌, eqb}
use Rattle.std.proofs.Common.{if◌then◌else◌, List, [], ◌∷◌, ◌++◌, length, get_or, slice_set, take}
use Rattle.std.proofs.Common.{map, filter}
use Rattle.std.proofs.Common.{length-set, get_or-set_same, get_or-set_other, All, AllPairs, refl}
use Rattle.std.proofs.Common.{sym}
use Rattle.std.proofs.Common.{ap, subst, ◌∙◌, arith, ⊎_elim, cond, append-nil}
use Rattle.std.proofs.lemmas.Bool.{cases_eq, cases_lt, cases_Bool, eq-eqb, ne_eqb, both_ways}
use Rattle.std.proofs.lemmas.List.{take_more, map-append, get_or_past}
use Rattle.std.proofs.lemmas.List.Elements.{All-append, All-cons, All-nil, filter-append}
use Rattle.std.proofs.lemmas.List.Folds.{list_any-append}
use Rattle.std.proofs.lemmas.List.Quantifiers.{all_pairs_push}
use Rattle.clause_store.specs.declared.literal.Lit.{Lit}
use Rattle.clause_store.specs.Clause.{variable, negation, IsClause}
use Rattle.normal_program.specs.Clauses.{is_lit, has_lit, each_once, is_tautology, cleaned}
use Rattle.completion.specs.Filling.{coded}
use Rattle.completion.specs.Drafts.{is_marked, IsDraft, Unmarks, with_lit, finished}
use Rattle.completion.proofs.AddLemmas.{each_once-push, cleaned-one, found_there, IsClause-differ}

or_true : (b : Bool) → (b || true) ≡ true
or_true true = refl
or_true false = refl

or_false : (b : Bool) → (b || false) ≡ b
or_false true = refl
or_false false = refl

-- a literal more is found where it was or is the new one
has_more : (lits : List Lit) (lit : Lit) (code : ℕ)
    → has_lit (lits ++ lit ∷ []) (coded code)
    ≡ (has_lit lits (coded code) || (eqb code lit.0 || false))
has_more lits lit code = list_any-append (is_lit (coded code)) lits (lit ∷ [])

has_new : (lits : List Lit) (lit : Lit) (code : ℕ) → code ≡ lit.0
    → has_lit (lits ++ lit ∷ []) (coded code) ≡ true
has_new lits lit code same =
    has_more lits lit code
    ∙ ap (λ b. has_lit lits (coded code) || (b || false)) (eq-eqb code lit.0 same)
    ∙ or_true (has_lit lits (coded code))

has_old : (lits : List Lit) (lit : Lit) (code : ℕ) → code ≢ lit.0
    → has_lit (lits ++ lit ∷ []) (coded code) ≡ has_lit lits (coded code)
has_old lits lit code other =
    has_more lits lit code
    ∙ ap (λ b. has_lit lits (coded code) || (b || false)) (ne_eqb code lit.0 other)
    ∙ or_false (has_lit lits (coded code))

-- no literal yet
pub Unmarks-none : (marks : List Bool) → Unmarks marks marks []
Unmarks-none marks = record { size = refl; each = λ code. refl }

-- one literal more
pub Unmarks-more : (old mid new : List Bool) (lits : List Lit) (lit : Lit) → Unmarks old mid lits
    → lit.0 < length mid → new ≡ slice_set mid lit.0 false
    → Unmarks old new (lits ++ lit ∷ [])
Unmarks-more old mid new lits lit unmarks within written = record {
  size = ap length written ∙ length-set mid lit.0 false ∙ unmarks.size;
  each = λ code.
      ⊎_elim
      (λ same. ap (λ marks. is_marked marks code) written
      ∙ ap (λ at. is_marked (slice_set mid lit.0 false) at) same
      ∙ get_or-set_same mid lit.0 false false within
      ∙ sym
      (ap (λ b. if b then false else is_marked old code) (has_new lits lit code same)))
      (λ other. ap (λ marks. is_marked marks code) written
      ∙ get_or-set_other mid lit.0 code false false other
      ∙ unmarks.each code
      ∙ sym
      (ap (λ b. if b then false else is_marked old code) (has_old lits lit code other)))
      (cases_eq code lit.0);
}

-- what is marked is in the table
marked_within : (marks : List Bool) (code : ℕ) → is_marked marks code ≡ true
    → code < length marks
marked_within marks code marked =
    ⊎_elim (λ low. low)
    (λ high. absurd (both_ways (is_marked marks code) (get_or_past marks code false high) marked))
    (cases_lt code (length marks))

-- the literals of a draft are in its table
pub draft_within : (marks : List Bool) (lits : List Lit) → IsDraft marks lits
    → All (λ lit. lit.0 < length marks) lits
draft_within marks lits draft k d h =
    marked_within marks (get_or lits k d).0
    (draft.marked (get_or lits k d).0 ∙ found_there lits k d (get_or lits k d) h refl)

-- without the marks of its literals a draft is empty
pub draft_unmarked : (old new : List Bool) (lits : List Lit) → IsDraft old lits
    → Unmarks old new lits → IsDraft new []
draft_unmarked old new lits draft unmarks = record {
  marked = λ code.
      unmarks.each code
      ∙ ap (λ b. if has_lit lits (coded code) then false else b) (draft.marked code)
      ∙ itself (has_lit lits (coded code));
  once = λ i j d less within. absurd (omega (arith, within));
  no_zero = All-nil (λ lit. 1 ≤ variable lit);
}
  where
    itself : (b : Bool) → (if b then false else b) ≡ false
    itself true = refl
    itself false = refl

-- a table with the same marks serves as well
pub draft_same : (old new : List Bool) (lits : List Lit) → IsDraft old lits
    → ((code : ℕ) → is_marked new code ≡ is_marked old code) → IsDraft new lits
draft_same old new lits draft same = record {
  marked = λ code. same code ∙ draft.marked code;
  once = draft.once;
  no_zero = draft.no_zero;
}

-- one literal more
pub draft_more : (old mid new : List Bool) (lits : List Lit) (lit : Lit) → IsDraft old lits
    → is_marked old lit.0 ≡ false → 1 ≤ variable lit → lit.0 < length mid
    → ((code : ℕ) → is_marked mid code ≡ is_marked old code)
    → new ≡ slice_set mid lit.0 true → IsDraft new (lits ++ lit ∷ [])
draft_more old mid new lits lit draft none no_zero within stay written =
    let absent : has_lit lits lit ≡ false = sym (draft.marked lit.0) ∙ none in
    record {
      marked = λ code.
          ⊎_elim
          (λ same. ap (λ marks. is_marked marks code) written
          ∙ ap (λ at. is_marked (slice_set mid lit.0 true) at) same
          ∙ get_or-set_same mid lit.0 true false within
          ∙ sym (has_new lits lit code same))
          (λ other. ap (λ marks. is_marked marks code) written
          ∙ get_or-set_other mid lit.0 code true false other
          ∙ stay code ∙ draft.marked code ∙ sym (has_old lits lit code other))
          (cases_eq code lit.0);
      once =
          all_pairs_push (λ one two. one ≢ two) lits lit draft.once
          (λ k d h e. both_ways (has_lit lits lit) absent (found_there lits k d lit h (sym e)));
      no_zero =
          All-append (λ one. 1 ≤ variable one) lits (lit ∷ []) draft.no_zero
          (All-cons (λ one. 1 ≤ variable one) lit [] no_zero (All-nil (λ one. 1 ≤ variable one)));
    }

-- a place past the end has no mark either
pub room_same : (marks : List Bool) (code : ℕ)
    → is_marked (marks ++ false ∷ []) code ≡ is_marked marks code
room_same [] zero = refl
room_same [] (suc code) = refl
room_same (mark ∷ marks) zero = refl
room_same (mark ∷ marks) (suc code) = room_same marks code

-- the literals of a draft without opposites are a clause
pub draft_clause : (marks : List Bool) (lits : List Lit) → IsDraft marks lits
    → is_tautology lits ≡ false → IsClause lits
draft_clause marks lits draft none = IsClause-differ lits draft.once draft.no_zero none

-- the draft of a clause, pushed on
pub pushed : (old new front next : List Lit) (lit : Lit) → old ≡ each_once front
    → new ≡ with_lit old lit → next ≡ front ++ lit ∷ [] → new ≡ each_once next
pushed old new front next lit was put more =
    put ∙ ap (λ lits. with_lit lits lit) was ∙ sym (each_once-push front lit)
    ∙ ap each_once (sym more)

-- the literals that a function makes of the first items
pub map_more : {X : Type 0} (f : X → Lit) (xs : List X) (at : ℕ) (x : X) → at < length xs
    → x ≡ get_or xs at x → map f (take (at + 1) xs) ≡ map f (take at xs) ++ f x ∷ []
map_more f xs at x within here =
    ap (map f) (take_more xs at x within ∙ ap (λ y. take at xs ++ y ∷ []) (sym here))
    ∙ map-append f (take at xs) (x ∷ [])

-- what a draft comes to
pub finished-cleaned : (lits raw : List Lit) → lits ≡ each_once raw
    → finished lits ≡ cleaned (raw ∷ [])
finished-cleaned lits raw same = ap finished same ∙ sym (cleaned-one raw)

-- the literals that a function makes of the first items that a test keeps
pub kept_pushed : {X : Type 0} (f : X → Lit) (p : X → Bool) (xs : List X) (at : ℕ) (x : X)
    (old new : List Lit) → at < length xs → x ≡ get_or xs at x
    → old ≡ each_once (map f (filter p (take at xs)))
    → new ≡ (if p x then with_lit old (f x) else old)
    → new ≡ each_once (map f (filter p (take (at + 1) xs)))
kept_pushed f p xs at x old new within here was put = by (p x) refl
  where
    split : map f (filter p (take (at + 1) xs))
        ≡ map f (filter p (take at xs)) ++ map f (filter p (x ∷ []))
    split =
        ap (λ ys. map f (filter p ys))
        (take_more xs at x within ∙ ap (λ y. take at xs ++ y ∷ []) (sym here))
        ∙ ap (map f) (filter-append p (take at xs) (x ∷ []))
        ∙ map-append f (filter p (take at xs)) (filter p (x ∷ []))

    by : (b : Bool) → p x ≡ b → new ≡ each_once (map f (filter p (take (at + 1) xs)))
    by true e =
        pushed old new (map f (filter p (take at xs))) (map f (filter p (take (at + 1) xs))) (f x)
        was (put ∙ ap (λ b. if b then with_lit old (f x) else old) e)
        (split ∙ ap (λ b. map f (filter p (take at xs)) ++ map f (cond b (x ∷ []) [])) e)
    by false e =
        put ∙ ap (λ b. if b then with_lit old (f x) else old) e ∙ was
        ∙ ap each_once
        (sym
        (split ∙ ap (λ b. map f (filter p (take at xs)) ++ map f (cond b (x ∷ []) [])) e
        ∙ append-nil (map f (filter p (take at xs)))))
