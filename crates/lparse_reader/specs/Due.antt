-- Which fields the format asks for, in order.
use Rattle.std.specs.Prelude.{◌==◌, ◌++◌, ℕ, if◌then◌else◌, List, [], ◌∷◌, Option, Some, None}
use Rattle.std.specs.Prelude.{nat_lt, replicate}
use Rattle.std.specs.Prelude.{option_and_then}
use Rattle.lparse_reader.specs.Pieces.{Item, number, entry, mark}

-- what may follow the number of negatives: nothing, a bound, or weights
pub data Extra : Type 0 where
  nothing : Extra
  bound : Extra
  weights : Extra

-- a field that is due
pub data Due : Type 0 where
  -- the kind of a rule, or a 0
  rules : Due
  -- a head or a literal
  atom : Due
  -- a bound or a weight
  any_number : Due
  -- the number of heads
  head_count : Due
  -- the number of literals, and the number of negatives of so many literals
  literal_count : Extra → Due
  negative_count : Extra → ℕ → Due
  -- an entry of the symbol table, or a 0
  entries : Due
  -- the mark with this sign, which is the first or the second
  sign : ℕ → ℕ → Due
  -- an atom of the compute statement, or a 0
  atoms : Due
  -- the number of models
  models : Due

-- what is due in a whole text
abbrev pub whole : List Due
whole = rules ∷ entries ∷ sign 43 1 ∷ atoms ∷ sign 45 2 ∷ atoms ∷ models ∷ []

-- what follows so many literals of which the negatives were counted
abbrev pub after_counts : Extra → ℕ → List Due
after_counts nothing literals = replicate literals atom
after_counts bound literals = any_number ∷ replicate literals atom
after_counts weights literals = replicate literals atom ++ replicate literals any_number

-- the fields of a rule of the kind with this number, if there is one, and then more rules
abbrev pub after_kind : ℕ → Option (List Due)
after_kind kind =
    if kind == 0 then Some []
    else if kind == 1 then Some (atom ∷ literal_count nothing ∷ rules ∷ [])
    else if kind == 2 then Some (atom ∷ literal_count bound ∷ rules ∷ [])
    else if kind == 3 then Some (head_count ∷ literal_count nothing ∷ rules ∷ [])
    else if kind == 5 then Some (atom ∷ any_number ∷ literal_count weights ∷ rules ∷ [])
    else if kind == 8 then Some (head_count ∷ literal_count nothing ∷ rules ∷ [])
    else None

-- what is due after a number in the place of a field, if it may stand there
abbrev pub after_number : Due → ℕ → Option (List Due)
after_number rules value = after_kind value
after_number atom value = if value == 0 then None else Some []
after_number any_number value = Some []
after_number head_count value = Some (replicate value atom)
after_number (literal_count extra) value = Some (negative_count extra value ∷ [])
after_number (negative_count extra literals) value =
    if nat_lt literals value then None else Some (after_counts extra literals)
after_number entries value = if value == 0 then Some [] else None
after_number (sign letter place) value = None
after_number atoms value = if value == 0 then Some [] else Some (atoms ∷ [])
after_number models value = Some []

-- what is due after an entry or a mark
abbrev pub after_entry : Due → Option (List Due)
after_entry entries = Some (entries ∷ [])
after_entry due = None

abbrev pub after_mark_of : Due → ℕ → Option (List Due)
after_mark_of (sign letter place) found = if found == letter then Some [] else None
after_mark_of due found = None

-- what is due after an item in the place of a field
abbrev pub after_item : Due → Item → Option (List Due)
after_item due (number value) = after_number due value
after_item due (entry named name) = after_entry due
after_item due (mark found) = after_mark_of due found

-- what is due after these items, if each of them is in its place
abbrev pub run : List Due → List Item → Option (List Due)
run agenda [] = Some agenda
run [] (item ∷ items) = None
run (due ∷ agenda) (item ∷ items) =
    option_and_then (λ more. run (more ++ agenda) items) (after_item due item)
