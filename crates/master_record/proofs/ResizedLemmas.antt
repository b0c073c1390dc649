-- After lines that settle something, a PAIR line may stand.
use Rattle.std.proofs.Common.{◌≡◌, ◌≢◌, ◌≤◌, ◌<◌, ◌+◌, ◌-◌, ℕ, Bool, cond, List, [], ◌∷◌, ◌++◌}
use Rattle.std.proofs.Common.{length}
use Rattle.std.proofs.Common.{get_or, refl, sym, ap, subst, ◌∙◌, arith, append-nil, Some, None}
use Rattle.std.specs.Prelude.{All, count_by, slice_get}
use Rattle.std.proofs.lemmas.List.Sums.{sum_by-append}
use Rattle.std.proofs.lemmas.List.Elements.{filter_map-append}
use Rattle.std.proofs.lemmas.Option.{slice_get-get_or}
use Rattle.normal_program.specs.declared.normal.Normal.{Normal}
use Rattle.report.specs.declared.lines.Line.{Line}
use Rattle.report.specs.Legal.{is_in, is_out, all_sizes, sizes_in, last_of, Extent, IsInside}
use Rattle.master_record.specs.Books.{Books}
use Rattle.master_record.specs.Told.{IsToldBy, IsResized, sizes_of}

-- the last of some sizes is one of them
last_inside : (sizes : List Extent) (last now : Extent) → All (IsInside now) sizes
    → last_of sizes ≡ Some last → IsInside now last
last_inside [] last now each is = cc
last_inside (one ∷ sizes) last now each is =
    let at : ℕ = length (one ∷ sizes) - 1 in
    let within : at < length (one ∷ sizes) = omega arith in
    let same : Some (get_or (one ∷ sizes) at one) ≡ Some last =
    sym (slice_get-get_or (one ∷ sizes) at one within) ∙ is in
    let equal : get_or (one ∷ sizes) at one ≡ last = cc in
    subst (IsInside now) equal (each at one within)

-- where something was settled since, the last PAIR line has other sizes
pub resized_by : (lines more : List Line) (old new : Books)
    → length new.normal.names ≡ length old.normal.names
    → IsToldBy lines old → IsToldBy (lines ++ more) new → all_sizes more ≡ []
    → 1 ≤ count_by is_in more + count_by is_out more → IsResized (lines ++ more) new
resized_by lines more old new names before after none some = λ same.
    let sizes : all_sizes (lines ++ more) ≡ all_sizes lines =
    filter_map-append sizes_in lines more
    ∙ ap (λ (xs : List Extent). all_sizes lines ++ xs) none ∙ append-nil (all_sizes lines) in
    let was : IsInside (sizes_of old.pair) (sizes_of new.pair) =
    last_inside (all_sizes lines) (sizes_of new.pair) (sizes_of old.pair) before.sized
    (ap last_of (sym sizes) ∙ same) in
    omega (
      arith,
      some,
      was.lower,
      was.upper,
      names,
      before.lower,
      before.upper,
      after.lower,
      after.upper,
      sum_by-append (λ (line : Line). cond (is_in line) 1 0) lines more,
      sum_by-append (λ (line : Line). cond (is_out line) 1 0) lines more,
    )
