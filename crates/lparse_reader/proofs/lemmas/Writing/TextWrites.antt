-- Writing fields, and lines up to what ends them.
use Rattle.std.proofs.Common.{◌≡◌, ℕ, false, ◌≤◌, ◌<◌, List, [], ◌∷◌, ◌++◌, length, take}
use Rattle.std.proofs.Common.{get_or, Option, Result, Ok, Err, refl, sym}
use Rattle.std.specs.Prelude.{IsErr}
use Rattle.std.specs.List.{flat_map}
use Rattle.std.proofs.lemmas.List.{append-nil}
use Rattle.std.proofs.lemmas.List.Concat.{flat_map-append}
use Rattle.std.proofs.lemmas.List.Folds.{flat_map-map}
use Rattle.ground_program.specs.declared.program.Weighted.{Weighted}
use Rattle.byte_edges.specs.Edges.{Writes}
use Rattle.byte_edges.proofs.CallerLemmas.{writes_then, writes_longer, writes_fault, writes_same}
use Rattle.byte_edges.proofs.CallerLemmas.{Wrote, wrote_fault, wrote_all}
use Rattle.lparse_reader.specs.Pieces.{body_atoms, negatives, body_weights}
use Rattle.lparse_reader.specs.Text.{next_field, next_fields}

-- the field of a literal, and that of its weight
abbrev pub literal_field : Weighted → List ℕ
literal_field part = next_field part.lit.atom

abbrev pub weight_field : Weighted → List ℕ
weight_field part = next_field part.weight

-- the two counts before the literals
abbrev pub counts : List Weighted → List ℕ
counts body = length body ∷ negatives body ∷ []

-- what stands for a literal past the end of a body
abbrev pub no_part : Weighted
no_part = record { lit = record { atom = 0; negated = false }; weight = 0 }

-- the texts of the literals, one after the other, are the fields of their atoms
pub fields_of_literals : (body : List Weighted)
    → flat_map literal_field body ≡ next_fields (body_atoms body)
fields_of_literals body = sym (flat_map-map next_field (λ (part : Weighted). part.lit.atom) body)

-- and those of their weights
pub fields_of_weights : (body : List Weighted)
    → flat_map weight_field body ≡ next_fields (body_weights body)
fields_of_weights body = sym (flat_map-map next_field (λ (part : Weighted). part.weight) body)

module _ {K : Type 0} {written : K → Option (List ℕ)} {faults : K → ℕ} where
  -- all items were written, and then what ends them
  pub lines_then : {X T E : Type 0} {old mid new : K} {ended : List ℕ} {result : Result T E}
      (f : X → List ℕ) (items : List X) (at : ℕ) → length items ≤ at
      → Wrote written faults old mid (flat_map f (take at items))
      → Writes written faults mid new ended result
      → Writes written faults old new (flat_map f items ++ ended) result
  lines_then f items at whole done one =
      writes_then (wrote_all {E = Unit {0}} {value = tt {0}} f items at whole done) one

  -- an item wasn't written whole, and what ends them wasn't tried
  pub lines_cut : {X T U E F : Type 0} {old mid new : K} {error : E} {result : Result U F}
      (f : X → List ℕ) (items : List X) (at : ℕ) (item : X) (ended : List ℕ) → IsErr result
      → at < length items → item ≡ get_or items at item
      → Wrote written faults old mid (flat_map f (take at items))
      → Writes {T = T} written faults mid new (f item) (Err error)
      → Writes written faults old new (flat_map f items ++ ended) result
  lines_cut {U = U} {old = old} {new = new} {error = error} f items at item ended fails within is
      before one =
      let failed : Writes {T = U} written faults old new (flat_map f items) (Err error) =
      wrote_fault f items item at item refl within is before one in
      writes_fault fails (writes_longer ended failed)

  -- the last field was written
  pub last_field : {T E : Type 0} {old new : K} {result : Result T E} (number : ℕ)
      → Writes written faults old new (next_field number) result
      → Writes written faults old new (next_fields (number ∷ [])) result
  last_field number one = writes_same (sym (append-nil (next_field number))) one

  -- fields were written, and then others
  pub fields_then : {T U E F : Type 0} {old mid new : K} {value : T} {result : Result U F}
      (first second : List ℕ)
      → Writes {E = E} written faults old mid (next_fields first) (Ok value)
      → Writes written faults mid new (next_fields second) result
      → Writes written faults old new (next_fields (first ++ second)) result
  fields_then first second one two =
      writes_same (sym (flat_map-append next_field first second)) (writes_then one two)

  -- fields weren't written whole, and those behind weren't tried
  pub fields_cut : {T U E F : Type 0} {old new : K} {error : E} {result : Result U F}
      (front rest : List ℕ) → IsErr result
      → Writes {T = T} written faults old new (next_fields front) (Err error)
      → Writes written faults old new (next_fields (front ++ rest)) result
  fields_cut front rest fails one =
      writes_same (sym (flat_map-append next_field front rest))
      (writes_fault fails (writes_longer (next_fields rest) one))
