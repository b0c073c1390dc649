-- The loop that reads a source to its end: what a source had at first, what it has left, and what
-- came.
use Rattle.std.proofs.Common.{◌≡◌, ◌≤◌, ◌<◌, ◌+◌, ◌++◌, ℕ, List, [], Option, Some, None, length}
use Rattle.std.proofs.Common.{take, drop, arith, IfSome, refl, ap, ◌∙◌, sym}
use Rattle.std.proofs.Math.Seq.{take-add}
use Rattle.std.proofs.lemmas.List.{drop-drop, take_all, nil_from_length, length-drop}
use Rattle.std.proofs.lemmas.Option.{same_Some, IfSome_then}
use Rattle.byte_edges.specs.Edges.{CameBehind, TookUpTo}

-- the bytes came from the source, and nothing else was taken
abbrev pub Came : Option (List ℕ) → Option (List ℕ) → List ℕ → Type 0
Came first now bytes = IfSome first (CameBehind (length bytes) now [] bytes)

-- before the first read nothing came
pub came_none : (first : Option (List ℕ)) (bytes : List ℕ) → bytes ≡ [] → Came first first bytes
came_none None bytes empty = tt
came_none (Some left) bytes empty =
    rw empty (record { enough = omega arith; rest = refl; list = refl })

-- what came before and what came behind it is what came
pub came_on : (first now new : Option (List ℕ)) (n : ℕ) (old bytes : List ℕ) → Came first now old
    → IfSome now (CameBehind n new old bytes) → length bytes ≡ length old + n → Came first new bytes
came_on None now new n old bytes one two grown = tt
came_on (Some left) None new n old bytes one two grown = cc one.rest
came_on (Some left) (Some rest) new n old bytes one two grown =
    let is_rest : rest ≡ drop (length old) left = same_Some _ _ one.rest in
    let enough : n ≤ length rest = two.enough in
    let front : old ≡ take (length old) left = one.list in
    rw grown (record {
      enough = omega (arith, ap length is_rest, length-drop (length old) left, one.enough);
      rest = two.rest ∙ ap Some (ap (drop n) is_rest ∙ drop-drop n (length old) left);
      list =
          two.list ∙ ap (λ part. old ++ take n part) is_rest
          ∙ ap (λ part. part ++ take n (drop (length old) left)) front
          ∙ sym (take-add (length old) n left);
    })

-- what was taken before and what was taken now is what was taken
pub took_on : (first now new : Option (List ℕ)) (old : List ℕ) (most limit : ℕ) → Came first now old
    → IfSome now (TookUpTo most new) → length old + most ≤ limit → IfSome first (TookUpTo limit new)
took_on None now new old most limit one two within = tt
took_on (Some left) None new old most limit one two within = cc one.rest
took_on (Some left) (Some rest) new old most limit one two within =
    let is_rest : rest ≡ drop (length old) left = same_Some _ _ one.rest in
    let few : two.0 ≤ most = two.1 in (
      length old + two.0,
      omega arith,
      two.2
          ∙ ap Some (ap (drop two.0) is_rest ∙ drop-drop two.0 (length old) left),
    )

-- one byte more than the limit came
pub came_too_long : (first now new : Option (List ℕ)) (n : ℕ) (old bytes : List ℕ) (limit : ℕ)
    → Came first now old → IfSome now (CameBehind n new old bytes) → length bytes ≡ length old + n
    → length bytes ≡ limit + 1
    → IfSome first (λ left. (limit < length left) × (new ≡ Some (drop (limit + 1) left)))
came_too_long first now new n old bytes limit one two grown long =
    IfSome_then first (came_on first now new n old bytes one two grown) (λ left came.
    (omega (arith, came.enough), rw (← long) came.rest))

ended : (first now new : Option (List ℕ)) (n : ℕ) (old bytes : List ℕ) → Came first now old
    → IfSome now (CameBehind n new old bytes) → length bytes ≡ length old + n → n ≡ 0
    → IfSome now (λ left. left ≡ []) → IfSome first (λ left. (bytes ≡ left) × (new ≡ Some []))
ended None now new n old bytes one two grown none end = tt
ended (Some left) None new n old bytes one two grown none end = cc one.rest
ended (Some left) (Some rest) new n old bytes one two grown none end =
    let is_rest : rest ≡ drop (length old) left = same_Some _ _ one.rest in
    let whole : length left ≤ length bytes =
    omega (arith, ap length is_rest, ap length end, length-drop (length old) left) in
    let came : CameBehind (length bytes) new [] bytes left =
    came_on (Some left) (Some rest) new n old bytes one two grown in (
      came.list ∙ take_all (length bytes) left whole,
      came.rest
          ∙ ap Some
          (nil_from_length (drop (length bytes) left)
          (omega (arith, length-drop (length bytes) left))),
    )

-- a read that took nothing at the end shows that all came
pub came_all : (first now new : Option (List ℕ)) (n : ℕ) (old bytes : List ℕ) → Came first now old
    → IfSome now (CameBehind n new old bytes) → length bytes ≡ length old + n → n ≡ 0
    → IfSome now (λ left. left ≡ []) → IfSome first (λ left. bytes ≡ left)
came_all first now new n old bytes one two grown none end =
    IfSome_then first (ended first now new n old bytes one two grown none end) (λ left both. both.0)

-- and that nothing is left
pub came_to_end : (first now new : Option (List ℕ)) (n : ℕ) (old bytes : List ℕ)
    → Came first now old → IfSome now (CameBehind n new old bytes) → length bytes ≡ length old + n
    → n ≡ 0 → IfSome now (λ left. left ≡ []) → IfSome first (λ left. new ≡ Some [])
came_to_end first now new n old bytes one two grown none end =
    IfSome_then first (ended first now new n old bytes one two grown none end) (λ left both. both.1)
