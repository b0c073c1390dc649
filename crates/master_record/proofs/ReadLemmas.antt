-- Reads of a list with one more item.
use Rattle.std.proofs.Common.{◌≡◌, ◌≤◌, ◌<◌, ◌+◌, ℕ, List, [], ◌∷◌, ◌++◌, length, get_or, sym, ap}
use Rattle.std.proofs.Common.{subst, ◌∙◌, arith, length-append, Some}
use Rattle.std.specs.Prelude.{slice_get}
use Rattle.std.proofs.lemmas.List.{get_or_append_left}
use Rattle.std.proofs.lemmas.Option.{slice_get_within, slice_get-get_or, get_or_from_slice_get}
use Rattle.std.proofs.Math.Seq.{get_or-append_seam}

-- a place before the last is as before
pub read_before : {X : Type 0} (xs : List X) (y : X) (k : ℕ) (x : X) → k < length xs
    → slice_get (xs ++ y ∷ []) k ≡ Some x → slice_get xs k ≡ Some x
read_before xs y k x less is =
    slice_get-get_or xs k x less
    ∙ ap Some (sym (get_or_append_left xs (y ∷ []) x k less)
    ∙ get_or_from_slice_get (xs ++ y ∷ []) k x x is)

-- another place is the last
pub read_place : {X : Type 0} (xs : List X) (y : X) (k : ℕ) (x : X) → length xs ≤ k
    → slice_get (xs ++ y ∷ []) k ≡ Some x → k ≡ length xs
read_place xs y k x past is =
    let within : k < length (xs ++ y ∷ []) = slice_get_within (xs ++ y ∷ []) k x is in
    let longer : length (xs ++ y ∷ []) ≡ length xs + length (y ∷ []) = length-append xs (y ∷ []) in
    let one : length (y ∷ []) ≡ 1 = omega arith in
    omega arith

-- and has the last item
pub read_last : {X : Type 0} (xs : List X) (y : X) (k : ℕ) (x : X) → length xs ≤ k
    → slice_get (xs ++ y ∷ []) k ≡ Some x → y ≡ x
read_last xs y k x past is =
    sym (get_or-append_seam xs y [] x)
    ∙ subst (λ n. get_or (xs ++ y ∷ []) n x ≡ x) (read_place xs y k x past is)
    (get_or_from_slice_get (xs ++ y ∷ []) k x x is)
