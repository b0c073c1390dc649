-- Reading one field from left to right: its value and the bytes after it, or the first fault.
use Rattle.std.specs.Prelude.{◌≡◌, ◌==◌, ◌+◌, ◌-◌, ◌*◌, ◌&&◌, ◌||◌, ℕ, zero, suc, Bool, false}
use Rattle.std.specs.Prelude.{if◌then◌else◌, List, [], ◌∷◌, ◌++◌, length, Option, Some, None}
use Rattle.std.specs.Prelude.{Result, Ok, Err, nat_lt}
use Rattle.std.specs.Char.{is_ascii_digit}
use Rattle.ground_program.specs.declared.program.Weighted.{Weighted}
use Rattle.ground_program.specs.declared.program.Named.{Named}
use Rattle.lparse_reader.specs.declared.fault.TextFault.TheVariants.{NotANumber, AtomZero}
use Rattle.lparse_reader.specs.declared.fault.TextFault.TheVariants.{NumberTooLarge, MissingMark}
use Rattle.lparse_reader.specs.declared.fault.TextFault.TheVariants.{ExternalSection, NameMissing}
use Rattle.lparse_reader.specs.declared.fault.TextFault.TheVariants.{TrailingText}
use Rattle.lparse_reader.specs.declared.fault.Fault.{Fault}
use Rattle.lparse_reader.specs.declared.fault.Fault.TheVariants.{Ended, At}
use Rattle.lparse_reader.specs.declared.fault.Stop.{Stop}
use Rattle.lparse_reader.specs.declared.fault.Stop.TheVariants as stops
use Rattle.lparse_reader.specs.Tokens.{is_separator, skipped, is_token_end, line_of, after_line}
use Rattle.lparse_reader.specs.Tokens.{trimmed}

-- the first fault decides
infixl 10 ◌>>=◌
abbrev pub ◌>>=◌ : {A B : Type 0} → Result A Fault → (A → Result B Fault) → Result B Fault
(Ok x) >>= next = next x
(Err fault) >>= next = Err fault

-- a function stopped as a reading does, or for want of memory
abbrev pub Fails : {B : Type 0} → Stop → Result B Fault → Type 0
Fails stops.NoMemory reading = Unit {0}
Fails (stops.Fault fault) reading = reading ≡ Err fault

-- a function gave what a reading gives, or stopped for want of memory
abbrev pub ReadsAs : {A B : Type 0} → (A → B) → Result A Stop → Result B Fault → Type 0
ReadsAs view (Ok x) reading = reading ≡ Ok (view x)
ReadsAs view (Err stop) reading = Fails stop reading

-- a field: what stands in some bytes, and the bytes after it
abbrev pub Field : Type 0 → Type 0
Field A = List ℕ → Result (A × List ℕ) Fault

-- a number goes on: `from` bytes are left at its token, and `number` is the value so far
unfoldable pub digits_at : ℕ → ℕ → Field ℕ
digits_at from number [] = Ok (number, [])
digits_at from number (byte ∷ rest) =
    if is_separator byte then Ok (number, byte ∷ rest)
    else if is_ascii_digit byte then (
    if nat_lt 2147483647 (10 * number + (byte - 48))
    then Err (At NumberTooLarge from (10 * number + (byte - 48)))
    else digits_at from (10 * number + (byte - 48)) rest)
    else Err (At NotANumber from byte)

-- the number that begins here
abbrev pub number_here : Field ℕ
number_here [] = Err Ended
number_here (byte ∷ rest) = digits_at (length (byte ∷ rest)) 0 (byte ∷ rest)

-- a number
unfoldable pub number_at : Field ℕ
number_at bytes = number_here (skipped bytes)

-- an atom, which is at least 1
unfoldable pub atom_at : Field ℕ
atom_at bytes = do
  atom ← number_at bytes
  if atom.0 == 0 then Err (At AtomZero (length (skipped bytes)) 0) else Ok atom

-- an atom, or nothing at a 0
unfoldable pub atom_or_end_at : Field (Option ℕ)
atom_or_end_at bytes = do
  atom ← number_at bytes
  if atom.0 == 0 then Ok (None, atom.1) else Ok (Some atom.0, atom.1)

-- items that were read before, and then those of a reading
abbrev pub behind : {A : Type 0} → List A → Result (List A × List ℕ) Fault
    → Result (List A × List ℕ) Fault
behind before reading = do
  more ← reading
  Ok (before ++ more.0, more.1)

-- so many items, each read by `field`
unfoldable pub counted_at : {A : Type 0} → Field A → ℕ → Field (List A)
counted_at field zero bytes = Ok ([], bytes)
counted_at field (suc count) bytes = do
  first ← field bytes
  behind (first.0 ∷ []) (counted_at field count first.1)

-- the items before the end, if one was read; else the end is here
abbrev pub before_end : {A : Type 0} → Option A → List ℕ → Result (List A × List ℕ) Fault
    → Result (List A × List ℕ) Fault
before_end None rest others = Ok ([], rest)
before_end (Some item) rest others = behind (item ∷ []) others

-- all items up to an end, each of them and the end read by `field`, where `most` bytes are left at
-- most
unfoldable pub until_end_at : {A : Type 0} → Field (Option A) → ℕ → Field (List A)
until_end_at field zero bytes = Err Ended
until_end_at field (suc most) bytes = do
  item ← field bytes
  before_end item.0 item.1 (until_end_at field most item.1)

-- a literal of the weight 1
unfoldable pub part_at : Bool → Field Weighted
part_at negated bytes = do
  atom ← atom_at bytes
  Ok (record { lit = record { atom = atom.0; negated = negated }; weight = 1 }, atom.1)

-- the literals with weights from here in place of their own
unfoldable pub weighed_at : List Weighted → Field (List Weighted)
weighed_at [] bytes = Ok ([], bytes)
weighed_at (part ∷ parts) bytes = do
  weight ← number_at bytes
  behind (record { lit = part.lit; weight = weight.0 } ∷ []) (weighed_at parts weight.1)

-- the token of a `B` and a sign stands here
abbrev pub is_mark : ℕ → List ℕ → Bool
is_mark sign [] = false
is_mark sign (first ∷ []) = false
is_mark sign (first ∷ second ∷ rest) = (first == 66) && (second == sign) && is_token_end rest

-- the bytes after two
abbrev pub after_two : List ℕ → List ℕ
after_two [] = []
after_two (first ∷ []) = []
after_two (first ∷ second ∷ rest) = rest

-- the mark that begins here, which is the first or the second
abbrev pub mark_here : ℕ → ℕ → List ℕ → Result (List ℕ) Fault
mark_here sign place [] = Err Ended
mark_here sign place (byte ∷ rest) =
    if is_mark sign (byte ∷ rest) then Ok (after_two (byte ∷ rest))
    else Err (At MissingMark (length (byte ∷ rest)) place)

-- a mark
unfoldable pub mark_at : ℕ → ℕ → List ℕ → Result (List ℕ) Fault
mark_at sign place bytes = mark_here sign place (skipped bytes)

-- the token `E` stands here
abbrev pub is_external : List ℕ → Bool
is_external [] = false
is_external (first ∷ rest) = (first == 69) && is_token_end rest

-- the number of models
unfoldable pub models_at : Field ℕ
models_at bytes =
    if is_external (skipped bytes) then Err (At ExternalSection (length (skipped bytes)) 69)
    else number_at bytes

-- nothing more begins here
abbrev pub end_here : List ℕ → Result (List ℕ) Fault
end_here [] = Ok []
end_here (byte ∷ rest) = Err (At TrailingText (length (byte ∷ rest)) byte)

-- separators alone up to the end
unfoldable pub end_at : List ℕ → Result (List ℕ) Fault
end_at bytes = end_here (skipped bytes)

-- an entry of this atom and name, where there is a name
abbrev pub entry_of : ℕ → ℕ → List ℕ → List ℕ → Result (Option Named × List ℕ) Fault
entry_of from atom [] rest = Err (At NameMissing from atom)
entry_of from atom (byte ∷ name) rest = Ok (Some (record { atom = atom; name = byte ∷ name }), rest)

-- the name of an entry: one blank or tab, and then the rest of the line
abbrev pub name_at : ℕ → ℕ → Field (Option Named)
name_at from atom [] = Err (At NameMissing from atom)
name_at from atom (gap ∷ rest) =
    if (gap == 32) || (gap == 9) then entry_of from atom (trimmed (line_of rest)) (after_line rest)
    else Err (At NameMissing from atom)

-- an entry of the symbol table, or nothing at a 0
unfoldable pub entry_or_end_at : Field (Option Named)
entry_or_end_at bytes = do
  atom ← number_at bytes
  if atom.0 == 0 then Ok (None, atom.1) else name_at (length (skipped bytes)) atom.0 atom.1
