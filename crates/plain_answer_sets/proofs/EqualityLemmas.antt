-- What a test of two lists of truth values tells.
use Rattle.std.proofs.Common.{◌≡◌, ◌≢◌, Bool, true, false, not, List, refl, sym, ◌∙◌, true≢false}
use Rattle.std.specs.Cmp.Lexicographic.{pointwise}
use Rattle.std.specs.Cmp.{booleans_Decides}
use Rattle.std.proofs.Math.Bool.{beq}
use Rattle.std.proofs.lemmas.Slice.Eq.{slice_eq-Decides}

not_same : (same : Bool) → true ≡ not same → same ≡ false
not_same true told = absurd (true≢false told)
not_same false told = refl

is_same : (same : Bool) → false ≡ not same → same ≡ true
is_same true told = refl
is_same false told = absurd (true≢false (sym told))

pub test_differs : (xs ys one two : List Bool) → xs ≡ one → ys ≡ two
    → true ≡ not (pointwise beq xs ys) → one ≢ two
test_differs xs ys one two first second told same =
    let tells = slice_eq-Decides booleans_Decides xs ys (pointwise beq xs ys) refl in
    true≢false (sym (tells.1 (first ∙ same ∙ sym second)) ∙ not_same (pointwise beq xs ys) told)

pub test_agrees : (xs ys one two : List Bool) → xs ≡ one → ys ≡ two
    → false ≡ not (pointwise beq xs ys) → one ≡ two
test_agrees xs ys one two first second told =
    let tells = slice_eq-Decides booleans_Decides xs ys (pointwise beq xs ys) refl in
    sym first ∙ tells.0 (is_same (pointwise beq xs ys) told) ∙ second
