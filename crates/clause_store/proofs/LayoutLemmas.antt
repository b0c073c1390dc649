-- The clauses that bounds cut out of an array, when literals are put behind.
use Rattle.std.proofs.Common.{◌≡◌, ℕ, zero, suc, ◌-◌, ◌+◌, ◌<◌, ◌≤◌, ◌^◌, List, [], ◌∷◌, ◌++◌}
use Rattle.std.proofs.Common.{length, take, drop, get_or, refl, sym, ap, ap₂, ◌∙◌, subst, arith}
use Rattle.std.proofs.Common.{length-append, add-one}
use Rattle.std.specs.Prelude.{All, slice_get, slice_range, Some}
use Rattle.std.proofs.lemmas.List.{take-append-le, drop-append-le, length-drop}
use Rattle.std.proofs.Math.Seq.{drop-append_seam, take-length}
use Rattle.std.proofs.lemmas.Option.{get_or_from_slice_get, slice_get_within}
use Rattle.std.proofs.lemmas.List.Elements.{All-push}
use Rattle.clause_store.specs.declared.literal.Lit.{Lit}
use Rattle.clause_store.specs.Clause.{IsClause}
use Rattle.clause_store.specs.Layout.{cuts, clauses_of, RiseTo, IsLaidOut}

-- no end is past the array
start_within : (size start : ℕ) (ends : List ℕ) → RiseTo size start ends → start ≤ size
start_within size start [] rise = omega (arith, rise)
start_within size start (end ∷ rest) rise =
    omega (arith, rise.0, start_within size end rest rise.1)

range_longer : (lits more : List Lit) (start end : ℕ) → start ≤ end → end ≤ length lits
    → slice_range (lits ++ more) start end ≡ slice_range lits start end
range_longer lits more start end order within =
    let high : end - start ≤ length (drop start lits) =
    omega (arith, order, within, length-drop start lits) in
    ap (take (end - start)) (drop-append-le start lits more (omega (arith, order, within)))
    ∙ take-append-le (end - start) (drop start lits) more high

-- the literals that were put behind
range_last : (old lits : List Lit)
    → slice_range (old ++ lits) (length old) (length (old ++ lits)) ≡ lits
range_last old lits =
    let count : length (old ++ lits) - length old ≡ length lits =
    omega (arith, length-append old lits) in
    ap₂ take count (drop-append_seam old lits) ∙ take-length lits

-- they are one part more
pub cuts_push : (old lits : List Lit) (start : ℕ) (ends : List ℕ) → RiseTo (length old) start ends
    → cuts (old ++ lits) start (ends ++ length (old ++ lits) ∷ []) ≡ cuts old start ends
    ++ lits ∷ []
cuts_push old lits start [] rise =
    ap (λ part. part ∷ [])
    (ap (λ from. slice_range (old ++ lits) from (length (old ++ lits))) rise ∙ range_last old lits)
cuts_push old lits start (end ∷ rest) rise =
    ap₂ (λ part parts. part ∷ parts)
    (range_longer old lits start end rise.0 (start_within (length old) end rest rise.1))
    (cuts_push old lits end rest rise.1)

rise_push : (size more start : ℕ) (ends : List ℕ) → size ≤ more → RiseTo size start ends
    → RiseTo more start (ends ++ more ∷ [])
rise_push size more start [] below rise = (omega (arith, rise, below), refl)
rise_push size more start (end ∷ rest) below rise =
    (rise.0, rise_push size more end rest below rise.1)

pub length-cuts : (lits : List Lit) (start : ℕ) (ends : List ℕ)
    → length (cuts lits start ends) ≡ length ends
length-cuts lits start [] = refl
length-cuts lits start (end ∷ rest) = ap suc (length-cuts lits end rest)

-- so there is one bound more than there are clauses
pub bounds_more : (lits : List Lit) (bounds : List ℕ) → IsLaidOut lits bounds
    → length bounds ≡ length (clauses_of lits bounds) + 1
bounds_more lits [] laid = absurd laid
bounds_more lits (start ∷ ends) laid =
    omega (arith, length-cuts lits start ends)

-- no bounds cut out more clauses than a number of 32 bits can count
pub few_clauses : (lits : List Lit) (bounds : List ℕ) → IsLaidOut lits bounds
    → length (clauses_of lits bounds) < 2 ^ 32
few_clauses lits [] laid = absurd laid
few_clauses lits (start ∷ ends) laid =
    subst (λ n. n < 2 ^ 32) (sym (length-cuts lits start ends)) laid.few_clauses

-- and there are as few literals
pub few_lits : (lits : List Lit) (bounds : List ℕ) → IsLaidOut lits bounds → length lits < 2 ^ 32
few_lits lits [] laid = absurd laid
few_lits lits (start ∷ ends) laid = laid.few_lits

-- the literals of a clause are those from one bound to the next
pub record IsPart (lits : List Lit) (clauses : List (List Lit)) (at start end : ℕ) : Type 0 where
  pub order : start ≤ end
  pub within : end ≤ length lits
  pub named : slice_get clauses at ≡ Some (slice_range lits start end)

part_of : (lits : List Lit) (first : ℕ) (ends : List ℕ) (at start end : ℕ)
    → RiseTo (length lits) first ends → at < length ends → start ≡ get_or (first ∷ ends) at start
    → end ≡ get_or ends at end → IsPart lits (cuts lits first ends) at start end
part_of lits first [] at start end rise within starts stops = absurd (omega (arith, within))
part_of lits first (next ∷ rest) zero start end rise within starts stops =
    record {
      order = omega (arith, rise.0, starts, stops);
      within = omega (arith, start_within (length lits) next rest rise.1, stops);
      named =
          ap₂ (λ from to. Some (slice_range lits from to)) (sym starts) (sym stops);
    }
part_of lits first (next ∷ rest) (suc at) start end rise within starts stops =
    let later : IsPart lits (cuts lits next rest) at start end =
    part_of lits next rest at start end rise.1 (omega (arith, within)) starts stops in
    record { order = later.order; within = later.within; named = later.named }

-- it is one that a store takes
allowed_at : (lits : List Lit) (bounds : List ℕ) (at : ℕ) (clause : List Lit)
    → IsLaidOut lits bounds → slice_get (clauses_of lits bounds) at ≡ Some clause
    → IsClause clause
allowed_at lits [] at clause laid named = absurd laid
allowed_at lits (first ∷ ends) at clause laid named =
    subst IsClause (get_or_from_slice_get (cuts lits first ends) at clause [] named)
    (laid.allowed at [] (slice_get_within (cuts lits first ends) at clause named))

part_at : (lits : List Lit) (bounds : List ℕ) (at start end : ℕ) → IsLaidOut lits bounds
    → at < length (clauses_of lits bounds) → start ≡ get_or bounds at start
    → end ≡ get_or bounds (at + 1) end → IsPart lits (clauses_of lits bounds) at start end
part_at lits [] at start end laid within starts stops = absurd laid
part_at lits (first ∷ ends) at start end laid within starts stops =
    part_of lits first ends at start end laid.rise
    (subst (λ n. at < n) (length-cuts lits first ends) within) starts
    (stops ∙ ap (λ k. get_or (first ∷ ends) k end) (add-one at))

-- behind the bound of a clause stands another one
pub bound_behind : (lits : List Lit) (bounds : List ℕ) (clauses : List (List Lit)) (at : ℕ)
    → IsLaidOut lits bounds → clauses_of lits bounds ≡ clauses → at < length clauses
    → at + 1 < length bounds
bound_behind lits bounds clauses at laid are within =
    omega (arith, within, ap length are, bounds_more lits bounds laid)

-- what the code reads between the two
pub clause_between : (lits : List Lit) (bounds : List ℕ) (clauses : List (List Lit))
    (at start end : ℕ) → IsLaidOut lits bounds → clauses_of lits bounds ≡ clauses
    → at < length clauses → start ≡ get_or bounds at start → end ≡ get_or bounds (at + 1) end
    → IsPart lits clauses at start end × IsClause (slice_range lits start end)
clause_between lits bounds clauses at start end laid are within starts stops =
    let here : at < length (clauses_of lits bounds) = omega (arith, within, ap length are) in
    let part : IsPart lits (clauses_of lits bounds) at start end =
    part_at lits bounds at start end laid here starts stops in (
      subst (λ all. IsPart lits all at start end) are part,
      allowed_at lits bounds at (slice_range lits start end) laid part.named,
    )

-- ---- a clause comes last

pub laid_out_push : (old lits : List Lit) (bounds : List ℕ) → IsLaidOut old bounds → IsClause lits
    → length (old ++ lits) < 2 ^ 32 → length (clauses_of old bounds) + 1 < 2 ^ 32
    → IsLaidOut (old ++ lits) (bounds ++ length (old ++ lits) ∷ [])
laid_out_push old lits [] laid clause few fewer = absurd laid
laid_out_push old lits (start ∷ ends) laid clause few fewer =
    record {
      rise =
          rise_push (length old) (length (old ++ lits)) start ends
          (omega (arith, length-append old lits)) laid.rise;
      allowed =
          subst (All IsClause) (sym (cuts_push old lits start ends laid.rise))
          (All-push IsClause (cuts old start ends) lits laid.allowed clause);
      few_lits = few;
      few_clauses =
          omega (
            arith,
            fewer,
            length-cuts old start ends,
            length-append ends (length (old ++ lits) ∷ []),
          );
    }

pub clauses_push : (old lits : List Lit) (bounds : List ℕ) → IsLaidOut old bounds
    → clauses_of (old ++ lits) (bounds ++ length (old ++ lits) ∷ [])
    ≡ clauses_of old bounds ++ lits ∷ []
clauses_push old lits [] laid = absurd laid
clauses_push old lits (start ∷ ends) laid = cuts_push old lits start ends laid.rise
