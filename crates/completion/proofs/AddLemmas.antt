-- A clause that is built literal by literal, each once, is one that a store takes.
use Rattle.std.proofs.Common.{◌≡◌, ◌≢◌, ◌≤◌, ◌<◌, ◌+◌, ◌-◌, ◌%◌, ◌⊎◌, ℕ, Bool, true, false, not}
use Rattle.std.proofs.Common.{cond, ◌||◌, eqb, List, [], ◌∷◌, ◌++◌, zero, suc, length, get_or, map}
use Rattle.std.proofs.Common.{filter, All, AllPairs, refl, sym, ap, subst, ◌∙◌, arith}
use Rattle.std.proofs.Common.{if◌then◌else◌, ⊎_elim, inl, inr, true≢false}
use Rattle.std.specs.List.{list_any}
use Rattle.std.proofs.lemmas.Bool.{eqb-true, eqb-false, eq-eqb, ne_eqb, cases_eq, cases_Bool}
use Rattle.std.proofs.lemmas.Bool.{both_ways, not-true}
use Rattle.std.proofs.lemmas.List.Elements.{All-contains, filter_passes, Contains-get_or}
use Rattle.std.proofs.lemmas.List.Elements.{filter-append}
use Rattle.std.proofs.lemmas.List.{append-nil, map_push}
use Rattle.std.proofs.lemmas.List.Folds.{list_any_at}
use Rattle.clause_store.specs.declared.literal.Lit.{Lit}
use Rattle.clause_store.specs.Clause.{variable, negation, IsClause}
use Rattle.clause_store.proofs.LiteralLemmas.{lit_of_code}
use Rattle.normal_program.specs.Clauses.{is_lit, has_lit, each_once, is_tautology, cleaned}
use Rattle.completion.specs.Filling.{coded}
use Rattle.normal_program.proofs.lemmas.Base.CleanLemmas.{kept_from, once_from}

or_none : (a b : Bool) → (a || b) ≡ false → (a ≡ false) × (b ≡ false)
or_none true b none = absurd (true≢false none)
or_none false b none = (refl, none)

-- what is found and kept is found among what is kept
kept_found : (p : Lit → Bool) (lit : Lit) → p lit ≡ true → (xs : List Lit) → has_lit xs lit ≡ true
    → has_lit (filter p xs) lit ≡ true
kept_found p lit keeps [] found = found
kept_found p lit keeps (x ∷ xs) found = by (eqb lit.0 x.0) refl (kept_found p lit keeps xs)
  where
    by : (b : Bool) → eqb lit.0 x.0 ≡ b → (has_lit xs lit ≡ true → has_lit (filter p xs) lit ≡ true)
        → has_lit (filter p (x ∷ xs)) lit ≡ true
    by true e later =
        let same : lit ≡ x = lit_of_code lit x (eqb-true lit.0 x.0 e) in
        ap (λ b. has_lit (cond b (x ∷ filter p xs) (filter p xs)) lit) (ap p (sym same) ∙ keeps)
        ∙ ap (λ b. b || has_lit (filter p xs) lit) e
    by false e later =
        let there : has_lit xs lit ≡ true = sym (ap (λ b. b || has_lit xs lit) e) ∙ found in
        rest (p x) refl (later there)
      where
        rest : (b : Bool) → p x ≡ b → has_lit (filter p xs) lit ≡ true
            → has_lit (filter p (x ∷ xs)) lit ≡ true
        rest true kept there =
            ap (λ b. has_lit (cond b (x ∷ filter p xs) (filter p xs)) lit) kept
            ∙ ap (λ b. b || has_lit (filter p xs) lit) e ∙ there
        rest false kept there =
            ap (λ b. has_lit (cond b (x ∷ filter p xs) (filter p xs)) lit) kept ∙ there

-- what isn't found isn't found among what a filter keeps
still_none : (p : Lit → Bool) (lit : Lit) (xs : List Lit) → has_lit xs lit ≡ false
    → has_lit (filter p xs) lit ≡ false
still_none p lit [] none = refl
still_none p lit (x ∷ xs) none = by (p x) refl (still_none p lit xs)
  where
    parts : (eqb lit.0 x.0 ≡ false) × (has_lit xs lit ≡ false)
    parts = or_none (eqb lit.0 x.0) (has_lit xs lit) none

    by : (b : Bool) → p x ≡ b → (has_lit xs lit ≡ false → has_lit (filter p xs) lit ≡ false)
        → has_lit (filter p (x ∷ xs)) lit ≡ false
    by true e later =
        ap (λ b. has_lit (cond b (x ∷ filter p xs) (filter p xs)) lit) e
        ∙ ap (λ b. b || has_lit (filter p xs) lit) parts.0 ∙ later parts.1
    by false e later =
        ap (λ b. has_lit (cond b (x ∷ filter p xs) (filter p xs)) lit) e ∙ later parts.1

-- what is found is found behind a literal whose equals were taken out
still : (lit x : Lit) (xs : List Lit) → has_lit xs lit ≡ true
    → has_lit (x ∷ filter (λ y. not (is_lit x y)) xs) lit ≡ true
still lit x xs found =
    ⊎_elim (λ same. ap (λ b. b || has_lit (filter (λ y. not (is_lit x y)) xs) lit) same)
    (λ differ. ap (λ b. b || has_lit (filter (λ y. not (is_lit x y)) xs) lit) differ
    ∙ kept_found (λ y. not (is_lit x y)) lit
    (ap not
    (ne_eqb x.0 lit.0
    (λ same. both_ways (eqb lit.0 x.0) differ (eq-eqb lit.0 x.0 (sym same))))) xs
    found)
    (cases_Bool (eqb lit.0 x.0))

-- one more literal, kept once
pub each_once-push : (xs : List Lit) (lit : Lit)
    → each_once (xs ++ lit ∷ [])
    ≡ (if has_lit (each_once xs) lit then each_once xs else each_once xs ++ lit ∷ [])
each_once-push [] lit = refl
each_once-push (x ∷ xs) lit = by (has_lit (each_once xs) lit) refl (each_once-push xs lit)
  where
    seen : (b : Bool) → is_lit lit x ≡ b → eqb x.0 lit.0 ≡ b
    seen true e = eq-eqb x.0 lit.0 (sym (eqb-true lit.0 x.0 e))
    seen false e =
        ne_eqb x.0 lit.0 (λ same. both_ways (eqb lit.0 x.0) e (eq-eqb lit.0 x.0 (sym same)))

    by : (b : Bool) → has_lit (each_once xs) lit ≡ b
        → each_once (xs ++ lit ∷ [])
        ≡ (if has_lit (each_once xs) lit then each_once xs else each_once xs ++ lit ∷ [])
        → x ∷ filter (λ y. not (is_lit x y)) (each_once (xs ++ lit ∷ []))
        ≡ (if has_lit (x ∷ filter (λ y. not (is_lit x y)) (each_once xs)) lit
        then x ∷ filter (λ y. not (is_lit x y)) (each_once xs)
        else (x ∷ filter (λ y. not (is_lit x y)) (each_once xs)) ++ lit ∷ [])
    by true e step =
        let kept : each_once (xs ++ lit ∷ []) ≡ each_once xs =
        step ∙ ap (λ b. if b then each_once xs else each_once xs ++ lit ∷ []) e in
        let found : has_lit (x ∷ filter (λ y. not (is_lit x y)) (each_once xs)) lit ≡ true =
        still lit x (each_once xs) e in
        ap (λ l. x ∷ filter (λ y. not (is_lit x y)) l) kept
        ∙ sym
        (ap (λ b. if b then x ∷ filter (λ y. not (is_lit x y)) (each_once xs)
        else (x ∷ filter (λ y. not (is_lit x y)) (each_once xs)) ++ lit ∷ []) found)
    by false e step =
        let kept : each_once (xs ++ lit ∷ []) ≡ each_once xs ++ lit ∷ [] =
        step ∙ ap (λ b. if b then each_once xs else each_once xs ++ lit ∷ []) e in
        ap (λ l. x ∷ filter (λ y. not (is_lit x y)) l) kept
        ∙ ap (λ l. x ∷ l) (filter-append (λ y. not (is_lit x y)) (each_once xs) (lit ∷ []))
        ∙ last (is_lit lit x) refl
      where
        last : (b : Bool) → is_lit lit x ≡ b
            → x ∷ (filter (λ y. not (is_lit x y)) (each_once xs)
            ++ filter (λ y. not (is_lit x y)) (lit ∷ []))
            ≡ (if has_lit (x ∷ filter (λ y. not (is_lit x y)) (each_once xs)) lit
            then x ∷ filter (λ y. not (is_lit x y)) (each_once xs)
            else (x ∷ filter (λ y. not (is_lit x y)) (each_once xs)) ++ lit ∷ [])
        last true same =
            ap (λ b. x
            ∷ (filter (λ y. not (is_lit x y)) (each_once xs) ++ cond (not b) (lit ∷ []) []))
            (seen true same)
            ∙ ap (λ l. x ∷ l) (append-nil (filter (λ y. not (is_lit x y)) (each_once xs)))
            ∙ sym
            (ap (λ b. if b || has_lit (filter (λ y. not (is_lit x y)) (each_once xs)) lit
            then x ∷ filter (λ y. not (is_lit x y)) (each_once xs)
            else (x ∷ filter (λ y. not (is_lit x y)) (each_once xs)) ++ lit ∷ []) same)
        last false differ =
            ap (λ b. x
            ∷ (filter (λ y. not (is_lit x y)) (each_once xs) ++ cond (not b) (lit ∷ []) []))
            (seen false differ)
            ∙ sym
            (ap (λ b. if b || has_lit (filter (λ y. not (is_lit x y)) (each_once xs)) lit
            then x ∷ filter (λ y. not (is_lit x y)) (each_once xs)
            else (x ∷ filter (λ y. not (is_lit x y)) (each_once xs)) ++ lit ∷ []) differ
            ∙ ap
            (λ b. if b then x ∷ filter (λ y. not (is_lit x y)) (each_once xs)
            else (x ∷ filter (λ y. not (is_lit x y)) (each_once xs)) ++ lit ∷ [])
            (still_none (λ y. not (is_lit x y)) lit (each_once xs) e))

-- literals of one variable are the same or opposite
same_or_opposite : (one two : Lit) → variable one ≡ variable two
    → (one ≡ two) ⊎ (two ≡ negation one)
same_or_opposite one two same =
    ⊎_elim (λ e. inl (lit_of_code one two e))
    (λ ne. inr (by (eqb (one.0 % 2) 1) refl ne))
    (cases_eq one.0 two.0)
  where
    by : (b : Bool) → eqb (one.0 % 2) 1 ≡ b → one.0 ≢ two.0 → two ≡ negation one
    by true e ne =
        let odd : one.0 % 2 ≡ 1 = eqb-true (one.0 % 2) 1 e in
        let down : (negation one).0 ≡ one.0 - 1 = ap (λ b. if b then one.0 - 1 else one.0 + 1) e in
        lit_of_code two (negation one) (omega (arith, odd, down, same, ne))
    by false e ne =
        let even : one.0 % 2 ≢ 1 = eqb-false (one.0 % 2) 1 e in
        let up : (negation one).0 ≡ one.0 + 1 = ap (λ b. if b then one.0 - 1 else one.0 + 1) e in
        lit_of_code two (negation one) (omega (arith, even, up, same, ne))

-- a literal that stands in a clause is found
pub found_there : (clause : List Lit) (k : ℕ) (d lit : Lit) → k < length clause
    → lit ≡ get_or clause k d → has_lit clause lit ≡ true
found_there clause k d lit within same =
    list_any_at (is_lit lit) clause k d within
    (eq-eqb lit.0 (get_or clause k d).0 (ap (λ (one : Lit). one.0) same))

-- a clause of literals that differ, without opposites, is one that a store takes
pub IsClause-differ : (xs : List Lit) → AllPairs (λ one two. one ≢ two) xs
    → All (λ lit. 1 ≤ variable lit) xs → is_tautology xs ≡ false → IsClause xs
IsClause-differ xs differ vars none = record {
  once = λ i j d less within same.
      ⊎_elim (λ e. differ i j d less within e)
      (λ opposite. both_ways (is_tautology xs) none
      (list_any_at (λ lit. has_lit xs (negation lit)) xs i d (omega (arith, less, within))
      (found_there xs j d (negation (get_or xs i d)) within (sym opposite))))
      (same_or_opposite (get_or xs i d) (get_or xs j d) same);
  no_zero = vars;
}

-- one clause, cleaned
pub cleaned-one : (xs : List Lit) →
    cleaned (xs ∷ []) ≡ (if is_tautology (each_once xs) then [] else each_once xs ∷ [])
cleaned-one xs = by (is_tautology (each_once xs))
  where
    by : (b : Bool) → cond (not b) (each_once xs ∷ []) [] ≡ (if b then [] else each_once xs ∷ [])
    by true = refl
    by false = refl
