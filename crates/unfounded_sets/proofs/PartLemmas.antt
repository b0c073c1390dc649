-- The lists that parts of an array are.
use Rattle.std.proofs.Common.{◌≡◌, ◌≤◌, ◌-◌, ℕ, suc, List, [], ◌∷◌, ◌++◌, length, take, drop, map}
use Rattle.std.proofs.Common.{refl, ap, ap₂, ◌∙◌, arith, length-append}
use Rattle.std.specs.Prelude.{All, slice_range}
use Rattle.std.proofs.lemmas.List.{take-append-le, drop-append-le, length-drop, map-append}
use Rattle.std.proofs.Math.Seq.{drop-append_seam, take-length}
use Rattle.unfounded_sets.specs.declared.lists.Span.{Span}
use Rattle.unfounded_sets.specs.Parts.{part_of, IsSpan}

-- ---- parts of an array

-- a part stays when more is put behind
range_longer : (xs more : List ℕ) (start end : ℕ) → start ≤ end → end ≤ length xs
    → slice_range (xs ++ more) start end ≡ slice_range xs start end
range_longer xs more start end order within =
    let high : end - start ≤ length (drop start xs) =
    omega (arith, order, within, length-drop start xs) in
    ap (take (end - start)) (drop-append-le start xs more (omega (arith, order, within)))
    ∙ take-append-le (end - start) (drop start xs) more high

-- what was put behind is the last part
range_last : (xs more : List ℕ)
    → slice_range (xs ++ more) (length xs) (length (xs ++ more)) ≡ more
range_last xs more =
    let count : length (xs ++ more) - length xs ≡ length more =
    omega (arith, length-append xs more) in
    ap₂ take count (drop-append_seam xs more) ∙ take-length more

parts_longer : (xs more : List ℕ) (spans : List Span) → All (IsSpan (length xs)) spans
    → map (part_of (xs ++ more)) spans ≡ map (part_of xs) spans
parts_longer xs more [] are = refl
parts_longer xs more (span ∷ spans) are =
    let first = are 0 span (omega arith) in
    ap₂ (λ part parts. part ∷ parts)
    (range_longer xs more span.start span.end first.order first.within)
    (parts_longer xs more spans (λ k d low. are (suc k) d (omega (arith, low))))

-- a list comes last
pub parts_push : (xs more : List ℕ) (spans : List Span) → All (IsSpan (length xs)) spans
    → map (part_of (xs ++ more))
    (spans ++ record { start = length xs; end = length (xs ++ more) } ∷ [])
    ≡ map (part_of xs) spans ++ more ∷ []
parts_push xs more spans are =
    map-append (part_of (xs ++ more)) spans
    (record { start = length xs; end = length (xs ++ more) } ∷ [])
    ∙ ap₂ (λ parts part. parts ++ part ∷ []) (parts_longer xs more spans are) (range_last xs more)
