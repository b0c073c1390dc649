-- Writing fields one after another.
use Rattle.std.proofs.Common.{◌≡◌, ◌≤◌, ◌<◌, ◌+◌, ℕ, Bool, true, false, List, [], ◌∷◌, ◌++◌}
use Rattle.std.proofs.Common.{length, take, drop, get_or, refl, sym, ◌∙◌, ap, arith, append-nil}
use Rattle.std.proofs.Common.{append_assoc, decimal, take-suc, take-append-drop, add-one}
use Rattle.std.proofs.Common.{length-take}
use Rattle.std.proofs.lemmas.Grind.{flat_map-append}
use Rattle.std.proofs.Math.Seq.{take-add}
use Rattle.std.specs.Prelude.{Some, slice_get, ◌-◌}
use Rattle.ground_program.specs.declared.program.Named.{Named}
use Rattle.report.specs.Text.{field, fields, positions_from, name_of}

-- the field of a number
abbrev pub number_field : ℕ → List ℕ
number_field number = field (decimal number)

-- the first field stands apart
pub fields_first : (word : List ℕ) (number : ℕ) (rest : List ℕ)
    → word ++ fields (number ∷ rest) ≡ word ++ fields (number ∷ []) ++ fields rest
fields_first word number rest =
    ap (λ (text : List ℕ). word ++ (text ++ fields rest))
    (sym (append-nil (field (decimal number))))
    ∙ sym (append_assoc word (fields (number ∷ [])) (fields rest))

-- the name of a candidate is that of its entry
pub name_at : (names : List Named) (cand : ℕ) (named : Named) (name : List ℕ)
    → slice_get names (cand - 1) ≡ Some named → name ≡ named.name → name_of names cand ≡ name
name_at names cand named name entry is = rw (entry, is) refl

-- the positions in a list and in one behind it
positions_append : (at : ℕ) (set more : List Bool)
    → positions_from at (set ++ more) ≡ positions_from at set
    ++ positions_from (at + length set) more
positions_append at [] more = let place : at ≡ at + 0 = omega arith in
    ap (λ (n : ℕ). positions_from n more) place
positions_append at (true ∷ set) more =
    let place : at + 1 + length set ≡ at + length (true ∷ set) = omega arith in
    ap (λ (ps : List ℕ). at ∷ ps)
    (positions_append (at + 1) set more
    ∙ ap (λ (n : ℕ). positions_from (at + 1) set ++ positions_from n more) place)
positions_append at (false ∷ set) more =
    let place : at + 1 + length set ≡ at + length (false ∷ set) = omega arith in
    positions_append (at + 1) set more
    ∙ ap (λ (n : ℕ). positions_from (at + 1) set ++ positions_from n more) place

-- the positions up to a value
positions_more : (set : List Bool) (from at : ℕ) (d holds : Bool) → at < length set
    → get_or set at d ≡ holds → positions_from from (take (at + 1) set)
    ≡ positions_from from (take at set) ++ positions_from (from + at) (holds ∷ [])
positions_more set from at d holds inside is =
    let size : from + length (take at set) ≡ from + at = omega (arith, length-take at set) in
    rw (add-one, take-suc set at d inside, is)
    (positions_append from (take at set) (holds ∷ [])
    ∙ ap (λ (n : ℕ). positions_from from (take at set) ++ positions_from n (holds ∷ [])) size)

-- the fields of the positions up to a true value
pub positions_true : (set : List Bool) (from at : ℕ) (d : Bool) → at < length set
    → get_or set at d ≡ true → fields (positions_from from (take (at + 1) set))
    ≡ fields (positions_from from (take at set)) ++ field (decimal (from + at))
positions_true set from at d inside holds =
    ap fields (positions_more set from at d true inside holds)
    ∙ flat_map-append (λ number. field (decimal number)) (positions_from from (take at set))
    ((from + at) ∷ [])
    ∙ ap (λ (text : List ℕ). fields (positions_from from (take at set)) ++ text)
    (append-nil (field (decimal (from + at))))

-- a false value has none
pub positions_false : (set : List Bool) (from at : ℕ) (d : Bool) → at < length set
    → get_or set at d ≡ false → positions_from from (take (at + 1) set)
    ≡ positions_from from (take at set)
positions_false set from at d inside holds =
    positions_more set from at d false inside holds
    ∙ append-nil (positions_from from (take at set))

-- the fields of the positions in a front of a list, and in the rest
pub positions_parts : (set : List Bool) (from at : ℕ) → at ≤ length set
    → fields (positions_from from set)
    ≡ fields (positions_from from (take at set))
    ++ fields (positions_from (from + at) (drop at set))
positions_parts set from at inside =
    let size : from + length (take at set) ≡ from + at = omega (arith, length-take at set) in
    ap (λ (values : List Bool). fields (positions_from from values))
    (sym (take-append-drop at set))
    ∙ ap fields (positions_append from (take at set) (drop at set))
    ∙ ap (λ (n : ℕ). fields (positions_from from (take at set) ++ positions_from n (drop at set)))
    size
    ∙ flat_map-append (λ number. field (decimal number)) (positions_from from (take at set))
    (positions_from (from + at) (drop at set))

-- the position of a true value stands between those before and those after it
pub positions_around : (set : List Bool) (from at : ℕ) (d : Bool) → at < length set
    → get_or set at d ≡ true → fields (positions_from from set)
    ≡ fields (positions_from from (take at set)) ++ field (decimal (from + at))
    ++ fields (positions_from (from + (at + 1)) (drop (at + 1) set))
positions_around set from at d inside holds =
    positions_parts set from (at + 1) (omega (arith, inside))
    ∙ ap
    (λ (text : List ℕ). text ++ fields (positions_from (from + (at + 1)) (drop (at + 1) set)))
    (positions_true set from at d inside holds)

-- the fields of the positions in a front, and in a block behind it
pub positions_block : (set : List Bool) (at count : ℕ) → at + count ≤ length set
    → fields (positions_from 0 (take (at + count) set))
    ≡ fields (positions_from 0 (take at set))
    ++ fields (positions_from at (take count (drop at set)))
positions_block set at count inside =
    let size : 0 + length (take at set) ≡ at = omega (arith, length-take at set) in
    ap (λ (values : List Bool). fields (positions_from 0 values)) (take-add at count set)
    ∙ ap fields (positions_append 0 (take at set) (take count (drop at set)))
    ∙ ap
    (λ (n : ℕ). fields
    (positions_from 0 (take at set) ++ positions_from n (take count (drop at set))))
    size
    ∙ flat_map-append (λ number. field (decimal number)) (positions_from 0 (take at set))
    (positions_from at (take count (drop at set)))

-- a block stands between the fields before and those after it
pub positions_rest : (set : List Bool) (at count : ℕ) → at + count ≤ length set
    → fields (positions_from 0 set)
    ≡ fields (positions_from 0 (take at set))
    ++ fields (positions_from at (take count (drop at set)))
    ++ fields (positions_from (0 + (at + count)) (drop (at + count) set))
positions_rest set at count inside =
    positions_parts set 0 (at + count) inside
    ∙ ap
    (λ (text : List ℕ). text
    ++ fields (positions_from (0 + (at + count)) (drop (at + count) set)))
    (positions_block set at count inside)
