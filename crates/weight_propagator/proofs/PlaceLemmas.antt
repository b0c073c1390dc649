-- The lists that parts of an array are, and where the literals of bodies are entered.
use Rattle.std.proofs.Common.{◌≡◌, ◌≤◌, ◌<◌, ◌-◌, ℕ, suc, cond}
use Rattle.std.proofs.Common.{eqb, List, [], ◌∷◌, ◌++◌, length, get_or, take, drop, map, refl}
use Rattle.std.proofs.Common.{ap, ap₂, ◌∙◌, subst, inl, inr, arith, length-append, Some}
use Rattle.std.specs.Prelude.{All, slice_get, slice_range, if◌then◌else◌, option_map}
use Rattle.std.proofs.lemmas.Bool.{cases_lt, eq-eqb}
use Rattle.std.proofs.lemmas.List.{take-append-le, drop-append-le, length-drop, map-append}
use Rattle.std.proofs.lemmas.List.{get_or_past}
use Rattle.std.proofs.lemmas.List.{length-map, get_or_default}
use Rattle.std.proofs.Math.Seq.{drop-append_seam, take-length}
use Rattle.std.proofs.lemmas.List.Sums.{get_or-le-sum_by}
use Rattle.std.proofs.lemmas.Option.{slice_get-map, get_or_from_slice_get}
use Rattle.weight_propagator.specs.declared.row.Term.{Term}
use Rattle.weight_propagator.specs.declared.row.Row.{Row}
use Rattle.weight_propagator.specs.declared.occurrences.Occurrence.{Occurrence}
use Rattle.weight_propagator.specs.declared.occurrences.Span.{Span}
use Rattle.weight_propagator.specs.Places.{part_of, IsSpan}
use Rattle.weight_propagator.specs.Sums.{row_sum, code_sum, AreOccurrencesIn, looked_at}
use Rattle.weight_propagator.specs.Sums.{AreOccurrences, one_each}

-- ---- parts of an array

-- a part stays when more is put behind
range_longer : (xs more : List Occurrence) (start end : ℕ) → start ≤ end → end ≤ length xs
    → slice_range (xs ++ more) start end ≡ slice_range xs start end
range_longer xs more start end order within =
    let high : end - start ≤ length (drop start xs) =
    omega (arith, order, within, length-drop start xs) in
    ap (take (end - start)) (drop-append-le start xs more (omega (arith, order, within)))
    ∙ take-append-le (end - start) (drop start xs) more high

-- what was put behind is the last part
range_last : (xs more : List Occurrence)
    → slice_range (xs ++ more) (length xs) (length (xs ++ more)) ≡ more
range_last xs more =
    let count : length (xs ++ more) - length xs ≡ length more =
    omega (arith, length-append xs more) in
    ap₂ take count (drop-append_seam xs more) ∙ take-length more

parts_longer : (xs more : List Occurrence) (spans : List Span) → All (IsSpan (length xs)) spans
    → map (part_of (xs ++ more)) spans ≡ map (part_of xs) spans
parts_longer xs more [] are = refl
parts_longer xs more (span ∷ spans) are =
    let first = are 0 span (omega arith) in
    ap₂ (λ part parts. part ∷ parts)
    (range_longer xs more span.start span.end first.order first.within)
    (parts_longer xs more spans (λ k d low. are (suc k) d (omega (arith, low))))

-- a list comes last
pub parts_push : (xs more : List Occurrence) (spans : List Span) → All (IsSpan (length xs)) spans
    → map (part_of (xs ++ more))
    (spans ++ record { start = length xs; end = length (xs ++ more) } ∷ [])
    ≡ map (part_of xs) spans ++ more ∷ []
parts_push xs more spans are =
    map-append (part_of (xs ++ more)) spans
    (record { start = length xs; end = length (xs ++ more) } ∷ [])
    ∙ ap₂ (λ parts part. parts ++ part ∷ []) (parts_longer xs more spans are) (range_last xs more)

-- ---- what the entries of a literal say

-- an occurrence is in one of the bodies
pub occurrence_within : (bodies : List (List Term)) (lists : List (List Occurrence))
    → AreOccurrencesIn bodies lists → (code : ℕ)
    → All (λ (one : Occurrence). one.row < length bodies) (get_or lists code [])
occurrence_within bodies lists are code k d within =
    elim (cases_lt entry.row (length bodies)) [
      | inl low ↦ low
      | inr past ↦
          let some : cond (eqb entry.row entry.row) (one_each entry.weight) 0
          ≤ row_sum one_each entry.row (get_or lists code []) =
          get_or-le-sum_by
          (λ (one : Occurrence). if eqb one.row entry.row then one_each one.weight else 0)
          (get_or lists code []) k d within in
          let one : cond (eqb entry.row entry.row) (one_each entry.weight) 0
          ≡ one_each entry.weight =
          ap (λ b. cond b (one_each entry.weight) 0) (eq-eqb entry.row entry.row refl) in
          let none : code_sum one_each code (get_or bodies entry.row []) ≡ 0 =
          ap (code_sum one_each code) (get_or_past bodies entry.row [] past) in
          absurd (omega (arith, some, one, none, are code one_each entry.row))
    ]
  where
    entry : Occurrence
    entry = get_or (get_or lists code []) k d

pub places_within : (rows : List Row) (lists : List (List Occurrence)) (count : ℕ)
    → AreOccurrences rows lists → count ≡ length rows
    → All (λ list. All (λ (one : Occurrence). one.row < count) list) lists
places_within rows lists count are same k d low j e within =
    let here : All (λ (one : Occurrence). one.row < length (map looked_at rows))
    (get_or lists k d) =
    subst (All (λ (one : Occurrence). one.row < length (map looked_at rows)))
    (get_or_default lists k [] d low) (occurrence_within (map looked_at rows) lists are k) in
    omega (arith, here j e within, length-map rows looked_at, same)

-- the occurrences of a body are its literals
pub occurrences_at : (rows : List Row) (lists : List (List Occurrence)) → AreOccurrences rows lists
    → (at : ℕ) (row : Row) → slice_get rows at ≡ Some row → (code : ℕ) (measure : ℕ → ℕ)
    → row_sum measure at (get_or lists code []) ≡ code_sum measure code (looked_at row)
occurrences_at rows lists are at row here code measure =
    are code measure at
    ∙ ap (code_sum measure code)
    (get_or_from_slice_get (map looked_at rows) at (looked_at row) []
    (slice_get-map looked_at rows at ∙ ap (option_map looked_at) here))
