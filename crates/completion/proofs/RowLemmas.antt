-- The bodies of the rules for atoms make their support clauses.
use Rattle.std.proofs.Common.{◌≡◌, ◌≤◌, ◌<◌, ◌+◌, ◌-◌, ℕ, zero, suc, Bool, true, false, cond, eqb}
use Rattle.std.proofs.Common.{List, take, take_all}
use Rattle.std.proofs.Common.{[], ◌∷◌, ◌++◌, length, length-set, get_or, get_or-set_same}
use Rattle.std.proofs.Common.{get_or-set_other, slice_set, map, filter, flat_map, replicate, All}
use Rattle.std.proofs.Common.{refl, sym, ap, ◌∙◌, arith, if◌then◌else◌, append_assoc, append-nil}
use Rattle.std.proofs.Common.{⊎_elim, ◌||◌, true≢false}
use Rattle.std.proofs.lemmas.Bool.{eq-eqb, ne_eqb, cases_eq, eqb-true, both_ways}
use Rattle.std.proofs.lemmas.List.{map-append, length-replicate, get_or-replicate}
use Rattle.std.proofs.lemmas.List.{get_or-map, length-map}
use Rattle.std.proofs.lemmas.List.Elements.{filter-append, All-append, All-nil, All-map}
use Rattle.std.proofs.lemmas.List.Elements.{Contains-push}
use Rattle.std.proofs.lemmas.List.Folds.{list_any_at}
use Rattle.std.proofs.lemmas.List.Concat.{flat_map-append}
use Rattle.std.specs.declared.vec.Vec.{Vec}
use Rattle.std.specs.declared.alloc.Global.{Global}
use Rattle.clause_store.specs.declared.literal.Lit.{Lit}
use Rattle.clause_store.specs.Clause.{variable}
use Rattle.normal_program.specs.declared.normal.NormalRule.{NormalRule}
use Rattle.normal_program.specs.declared.normal.Normal.{Normal}
use Rattle.normal_program.specs.Normal.{body_var}
use Rattle.normal_program.specs.Clauses.{positive, negative, is_lit, has_lit, has_atom, each_once}
use Rattle.normal_program.specs.Clauses.{is_tautology, cleaned, support_clause, numbers_from}
use Rattle.completion.specs.Filling.{supports_of}
use Rattle.completion.proofs.AddLemmas.{each_once-push, cleaned-one}
use Rattle.normal_program.proofs.lemmas.Base.CleanLemmas.{once_has}
use Rattle.normal_program.proofs.lemmas.Base.TruthLemmas.{variable-positive}

-- the literals of rows have variables
pub supports-vars : (normal : Normal) (rules : List NormalRule) (atom : ℕ)
    → All (λ lit. 1 ≤ variable lit) (supports_of normal rules atom)
supports-vars normal [] atom = All-nil (λ lit. 1 ≤ variable lit)
supports-vars normal (rule ∷ rules) atom =
    All-append (λ lit. 1 ≤ variable lit)
    (map (λ head. positive (body_var normal rule.body))
    (filter (λ head. eqb head atom) rule.heads)) (supports_of normal rules atom)
    (All-map (λ lit. 1 ≤ variable lit) (λ (head : ℕ). positive (body_var normal rule.body))
    (filter (λ head. eqb head atom) rule.heads)
    (λ k d h. omega (arith, variable-positive (body_var normal rule.body))))
    (supports-vars normal rules atom)

-- lists with the same literals once have them so with more
pub once_more : (xs ys : List Lit) (lit : Lit) → each_once xs ≡ each_once ys
    → each_once (xs ++ lit ∷ []) ≡ each_once (ys ++ lit ∷ [])
once_more xs ys lit same =
    each_once-push xs lit ∙ ap (λ l. if has_lit l lit then l else l ++ lit ∷ []) same
    ∙ sym (each_once-push ys lit)

-- a literal is found in what it was put to
once_found : (xs : List Lit) (lit : Lit) → has_lit (each_once (xs ++ lit ∷ [])) lit ≡ true
once_found xs lit =
    let here = once_has (xs ++ lit ∷ []) lit (Contains-push xs lit) in
    list_any_at (is_lit lit) (each_once (xs ++ lit ∷ [])) here.0 lit here.1
    (eq-eqb lit.0 (get_or (each_once (xs ++ lit ∷ [])) here.0 lit).0
    (ap (λ (one : Lit). one.0) (sym here.2)))

-- a literal that is there comes again without effect
row_repeat : (test : ℕ → Bool) (lit : Lit) (heads : List ℕ) (xs : List Lit)
    → has_lit (each_once xs) lit ≡ true
    → each_once (xs ++ map (λ head. lit) (filter test heads)) ≡ each_once xs
row_repeat test lit [] xs found = ap each_once (append-nil xs)
row_repeat test lit (head ∷ heads) xs found =
    by (test head) refl (row_repeat test lit heads xs found)
    (row_repeat test lit heads (xs ++ lit ∷ []) (once_found xs lit))
  where
    by : (b : Bool) → test head ≡ b
        → each_once (xs ++ map (λ one. lit) (filter test heads)) ≡ each_once xs
        → each_once ((xs ++ lit ∷ []) ++ map (λ one. lit) (filter test heads))
        ≡ each_once (xs ++ lit ∷ [])
        → each_once (xs ++ map (λ one. lit) (filter test (head ∷ heads))) ≡ each_once xs
    by true e same more =
        ap (λ b. each_once
        (xs ++ map (λ one. lit) (cond b (head ∷ filter test heads) (filter test heads)))) e
        ∙ ap each_once (sym (append_assoc xs (lit ∷ []) (map (λ one. lit) (filter test heads))))
        ∙ more
        ∙ each_once-push xs lit ∙ ap (λ b. if b then each_once xs else each_once xs ++ lit ∷ [])
        found
    by false e same more =
        ap (λ b. each_once
        (xs ++ map (λ one. lit) (cond b (head ∷ filter test heads) (filter test heads)))) e
        ∙ same

-- the body of a rule comes for each head that is the atom, or once
row_once : (atom : ℕ) (lit : Lit) (xs : List Lit) (heads : List ℕ) → has_atom heads atom ≡ true
    → each_once (xs ++ map (λ head. lit) (filter (λ head. eqb head atom) heads))
    ≡ each_once (xs ++ lit ∷ [])
row_once atom lit xs [] found = absurd (true≢false (sym found))
row_once atom lit xs (head ∷ heads) found = by (eqb head atom) refl (row_once atom lit xs heads)
  where
    by : (b : Bool) → eqb head atom ≡ b
        → (has_atom heads atom ≡ true
        → each_once (xs ++ map (λ one. lit) (filter (λ one. eqb one atom) heads))
        ≡ each_once (xs ++ lit ∷ []))
        → each_once (xs ++ map (λ one. lit) (filter (λ one. eqb one atom) (head ∷ heads)))
        ≡ each_once (xs ++ lit ∷ [])
    by true e later =
        ap (λ b. each_once
        (xs ++ map (λ one. lit)
        (cond b (head ∷ filter (λ one. eqb one atom) heads)
        (filter (λ one. eqb one atom) heads)))) e
        ∙ ap each_once
        (sym
        (append_assoc xs (lit ∷ [])
        (map (λ one. lit) (filter (λ one. eqb one atom) heads))))
        ∙ row_repeat (λ one. eqb one atom) lit heads (xs ++ lit ∷ []) (once_found xs lit)
    by false e later =
        let other : eqb atom head ≡ false =
        ne_eqb atom head (λ same. both_ways (eqb head atom) e (eq-eqb head atom (sym same))) in
        ap (λ b. each_once
        (xs ++ map (λ one. lit)
        (cond b (head ∷ filter (λ one. eqb one atom) heads)
        (filter (λ one. eqb one atom) heads)))) e
        ∙ later (sym (ap (λ b. b || has_atom heads atom) other) ∙ found)

row_none : (atom : ℕ) (lit : Lit) (heads : List ℕ) → has_atom heads atom ≡ false
    → map (λ head. lit) (filter (λ head. eqb head atom) heads) ≡ []
row_none atom lit [] none = refl
row_none atom lit (head ∷ heads) none = by (eqb head atom) refl (row_none atom lit heads)
  where
    by : (b : Bool) → eqb head atom ≡ b
        → (has_atom heads atom ≡ false → map (λ one. lit) (filter (λ one. eqb one atom) heads) ≡ [])
        → map (λ one. lit) (filter (λ one. eqb one atom) (head ∷ heads)) ≡ []
    by true e later =
        absurd
        (both_ways (has_atom (head ∷ heads) atom) none
        (ap (λ b. b || has_atom heads atom)
        (eq-eqb atom head (sym (eqb-true head atom e)))))
    by false e later =
        let other : eqb atom head ≡ false =
        ne_eqb atom head (λ same. both_ways (eqb head atom) e (eq-eqb head atom (sym same))) in
        ap (λ b. map (λ one. lit)
        (cond b (head ∷ filter (λ one. eqb one atom) heads)
        (filter (λ one. eqb one atom) heads))) e
        ∙ later (sym (ap (λ b. b || has_atom heads atom) other) ∙ none)

-- the rows have the same literals as the support clauses, each once
rows_once : (normal : Normal) (atom : ℕ) (rules : List NormalRule) (xs ys : List Lit)
    → each_once xs ≡ each_once ys
    → each_once (xs ++ supports_of normal rules atom)
    ≡ each_once
    (ys ++ map (λ rule. positive (body_var normal rule.body))
    (filter (λ rule. has_atom rule.heads atom) rules))
rows_once normal atom [] xs ys same =
    ap each_once (append-nil xs) ∙ same ∙ sym (ap each_once (append-nil ys))
rows_once normal atom (rule ∷ rules) xs ys same =
    ap each_once
    (sym
    (append_assoc xs
    (map (λ head. positive (body_var normal rule.body))
    (filter (λ head. eqb head atom) rule.heads)) (supports_of normal rules atom)))
    ∙ by (has_atom rule.heads atom) refl (rows_once normal atom rules)
  where
    by : (b : Bool) → has_atom rule.heads atom ≡ b
        → ((us vs : List Lit) → each_once us ≡ each_once vs
        → each_once (us ++ supports_of normal rules atom)
        ≡ each_once
        (vs ++ map (λ one. positive (body_var normal one.body))
        (filter (λ one. has_atom one.heads atom) rules)))
        → each_once
        ((xs ++ map (λ head. positive (body_var normal rule.body))
        (filter (λ head. eqb head atom) rule.heads)) ++ supports_of normal rules atom)
        ≡ each_once
        (ys ++ map (λ one. positive (body_var normal one.body))
        (filter (λ one. has_atom one.heads atom) (rule ∷ rules)))
    by true e later =
        later
        (xs ++ map (λ head. positive (body_var normal rule.body))
        (filter (λ head. eqb head atom) rule.heads))
        (ys ++ positive (body_var normal rule.body) ∷ [])
        (row_once atom (positive (body_var normal rule.body)) xs rule.heads e
        ∙ once_more xs ys (positive (body_var normal rule.body)) same)
        ∙ ap each_once
        (append_assoc ys (positive (body_var normal rule.body) ∷ [])
        (map (λ one. positive (body_var normal one.body))
        (filter (λ one. has_atom one.heads atom) rules)))
        ∙ sym
        (ap (λ b. each_once
        (ys ++ map (λ one. positive (body_var normal one.body))
        (cond b (rule ∷ filter (λ one. has_atom one.heads atom) rules)
        (filter (λ one. has_atom one.heads atom) rules)))) e)
    by false e later =
        later
        (xs ++ map (λ head. positive (body_var normal rule.body))
        (filter (λ head. eqb head atom) rule.heads)) ys
        (ap (λ row. each_once (xs ++ row))
        (row_none atom (positive (body_var normal rule.body)) rule.heads e)
        ∙ ap each_once (append-nil xs) ∙ same)
        ∙ sym
        (ap (λ b. each_once
        (ys ++ map (λ one. positive (body_var normal one.body))
        (cond b (rule ∷ filter (λ one. has_atom one.heads atom) rules)
        (filter (λ one. has_atom one.heads atom) rules)))) e)

-- a row makes the support clause of its atom
pub cleaned-row : (normal : Normal) (atom : ℕ) (row : List Lit)
    → row ≡ supports_of normal normal.rules atom
    → cleaned ((negative atom ∷ row) ∷ []) ≡ cleaned (support_clause normal atom ∷ [])
cleaned-row normal atom row same =
    cleaned-one (negative atom ∷ row)
    ∙ ap (λ l. if is_tautology l then [] else l ∷ [])
    (ap (λ l. each_once (negative atom ∷ l)) same
    ∙ rows_once normal atom normal.rules (negative atom ∷ []) (negative atom ∷ []) refl)
    ∙ sym (cleaned-one (support_clause normal atom))

-- numbers from the first on
pub length-numbers : (first count : ℕ) → length (numbers_from first count) ≡ count
length-numbers first zero = refl
length-numbers first (suc count) = omega (arith, length-numbers (first + 1) count)

pub get_or-numbers : (first count k d : ℕ) → k < count
    → get_or (numbers_from first count) k d ≡ first + k
get_or-numbers first zero k d within = absurd (omega (arith, within))
get_or-numbers first (suc count) zero d within = omega arith
get_or-numbers first (suc count) (suc k) d within =
    omega (arith, get_or-numbers (first + 1) count k d (omega (arith, within)))

-- an atom stands at its place among the numbers from 1 on
pub atom_at : (count atom : ℕ) → 1 ≤ atom → atom ≤ count
    → (atom - 1 < length (numbers_from 1 count))
    × (atom ≡ get_or (numbers_from 1 count) (atom - 1) atom)
atom_at count atom first last = (
  omega (arith, length-numbers 1 count, first, last),
  omega (arith, get_or-numbers 1 count (atom - 1) atom (omega (arith, first, last)), first),
)

-- the place of the next number
pub next_place : (atom : ℕ) → 1 ≤ atom → atom - 1 + 1 ≡ atom + 1 - 1
next_place atom first = omega (arith, first)

-- past the last number all have been read
pub all_numbers : (count atom : ℕ) → count + 1 ≤ atom
    → take (atom - 1) (numbers_from 1 count) ≡ numbers_from 1 count
all_numbers count atom past =
    take_all (atom - 1) (numbers_from 1 count) (omega (arith, length-numbers 1 count, past))
