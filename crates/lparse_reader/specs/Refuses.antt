-- Which texts are refused: the fields up to one are as the format says, and that one fails.
use Rattle.std.specs.Prelude.{◌≡◌, ◌==◌, ◌+◌, ◌-◌, ◌*◌, ◌<◌, ◌≤◌, ◌++◌, ◌⊎◌, ℕ, true, false}
use Rattle.std.specs.Prelude.{if◌then◌else◌, List, [], ◌∷◌, length, Option, Some, None, Result, Ok}
use Rattle.std.specs.Prelude.{Err, IfSome}
use Rattle.std.specs.List.{AllByRecursion}
use Rattle.std.specs.Char.{is_ascii_digit}
use Rattle.ground_program.specs.declared.program.Program.{Program}
use Rattle.ground_program.specs.Program.{IsName}
use Rattle.lparse_reader.specs.declared.fault.TextFault.{TextFault}
use Rattle.lparse_reader.specs.declared.fault.TextFault.TheVariants.{NotANumber, UnknownKind}
use Rattle.lparse_reader.specs.declared.fault.TextFault.TheVariants.{MinimizeRule, AtomZero}
use Rattle.lparse_reader.specs.declared.fault.TextFault.TheVariants.{NumberTooLarge, NegativeCount}
use Rattle.lparse_reader.specs.declared.fault.TextFault.TheVariants.{MissingMark, ExternalSection}
use Rattle.lparse_reader.specs.declared.fault.TextFault.TheVariants.{NameMissing, TrailingText}
use Rattle.lparse_reader.specs.declared.fault.Fault.{Fault}
use Rattle.lparse_reader.specs.declared.fault.Fault.TheVariants.{Ended, At}
use Rattle.lparse_reader.specs.declared.fault.ReadError.{ReadError}
use Rattle.lparse_reader.specs.declared.fault.ReadError.TheVariants.{Text, TooLong, ReadFault}
use Rattle.lparse_reader.specs.declared.fault.ReadError.TheVariants.{NoMemory}
use Rattle.lparse_reader.specs.Tokens.{is_separator, is_token_end}
use Rattle.lparse_reader.specs.Refusal.{told}
use Rattle.lparse_reader.specs.Pieces.{Item, number, entry, mark, IsGap, value_of, StandsNumber}
use Rattle.lparse_reader.specs.Pieces.{StandsMark, StandsEntry, PieceRow, Reads}
use Rattle.lparse_reader.specs.Due.{Due, rules, atom, negative_count, entries, sign, models, whole}
use Rattle.lparse_reader.specs.Due.{after_number, run}

-- no token is left
pub record NoToken (bytes : List ℕ) (fault : Fault) : Type 0 where
  pub blank : IsGap bytes
  pub fault_is : fault ≡ Ended

-- behind digits of this value a byte is no digit, or brings the value over the limit
abbrev pub IsWrong : ℕ → ℕ → ℕ → Fault → Type 0
IsWrong left value byte fault =
    ((is_ascii_digit byte ≡ false) × (fault ≡ At NotANumber left byte))
    ⊎ ((is_ascii_digit byte ≡ true) × (2147483647 < 10 * value + (byte - 48))
    × (fault ≡ At NumberTooLarge left (10 * value + (byte - 48))))

-- a token is no number: digits of a number, and then the byte that is wrong
pub record BadNumber (bytes : List ℕ) (fault : Fault) : Type 0 where
  pub gap : List ℕ
  pub digits : List ℕ
  pub byte : ℕ
  pub rest : List ℕ
  pub between : IsGap gap
  pub digits_only : AllByRecursion (λ digit. is_ascii_digit digit ≡ true) digits
  pub small : value_of 0 digits ≤ 2147483647
  pub parts : bytes ≡ gap ++ (digits ++ (byte ∷ rest))
  pub goes_on : is_separator byte ≡ false
  pub wrong : IsWrong (length (digits ++ (byte ∷ rest))) (value_of 0 digits) byte fault

-- how a number is told that may not stand in the place of a field
abbrev pub bad_value : Due → ℕ → ℕ → Fault
bad_value rules left value =
    if value == 6 then At MinimizeRule left 6 else At UnknownKind left value
bad_value atom left value = At AtomZero left 0
bad_value (negative_count extra literals) left value = At NegativeCount left value
bad_value entries left value = At NameMissing left value
bad_value due left value = Ended

-- a number that may not stand in the place of a field
pub record BadValue (due : Due) (bytes : List ℕ) (fault : Fault) : Type 0 where
  pub value : ℕ
  pub rest : List ℕ
  pub stands : StandsNumber value bytes rest
  pub unfit : after_number due value ≡ None
  pub fault_is : fault ≡ bad_value due (length (stands.token ++ rest)) value

-- an atom without a name: no entry stands here
pub record NoName (bytes : List ℕ) (fault : Fault) : Type 0 where
  pub bad : BadValue entries bytes fault
  pub no_entry : (value : ℕ) (name rest : List ℕ) → IsName name → StandsEntry value name bytes rest
      → ⊥

-- the first token that stands here begins with this byte
pub record TokenBegins (first : ℕ) (bytes rest : List ℕ) : Type 0 where
  pub gap : List ℕ
  pub between : IsGap gap
  pub parts : bytes ≡ gap ++ (first ∷ rest)
  pub begins : is_separator first ≡ false

-- a token stands where a mark is due, and no mark
pub record NoMark (letter place : ℕ) (bytes : List ℕ) (fault : Fault) : Type 0 where
  pub first : ℕ
  pub rest : List ℕ
  pub token : TokenBegins first bytes rest
  pub no_mark : (after : List ℕ) → StandsMark letter bytes after → ⊥
  pub fault_is : fault ≡ At MissingMark (length (first ∷ rest)) place

-- the token `E` stands here
pub record External (bytes : List ℕ) (fault : Fault) : Type 0 where
  pub gap : List ℕ
  pub rest : List ℕ
  pub between : IsGap gap
  pub parts : bytes ≡ gap ++ (69 ∷ rest)
  pub ends : is_token_end rest ≡ true
  pub fault_is : fault ≡ At ExternalSection (length (69 ∷ rest)) 69

-- a token that is no number, and isn't `E`
pub record BadModels (bytes : List ℕ) (fault : Fault) : Type 0 where
  pub bad : BadNumber bytes fault
  pub no_external : (other : Fault) → External bytes other → ⊥

-- a token stands behind the last field
pub record Trailing (bytes : List ℕ) (fault : Fault) : Type 0 where
  pub first : ℕ
  pub rest : List ℕ
  pub token : TokenBegins first bytes rest
  pub fault_is : fault ≡ At TrailingText (length (first ∷ rest)) first

-- the field that is due fails
abbrev pub FailsAt : Due → List ℕ → Fault → Type 0
FailsAt entries bytes fault = NoToken bytes fault ⊎ (BadNumber bytes fault ⊎ NoName bytes fault)
FailsAt (sign letter place) bytes fault = NoToken bytes fault ⊎ NoMark letter place bytes fault
FailsAt models bytes fault = NoToken bytes fault ⊎ (External bytes fault ⊎ BadModels bytes fault)
FailsAt due bytes fault = NoToken bytes fault ⊎ (BadNumber bytes fault ⊎ BadValue due bytes fault)

-- the first field that is due fails, or a token stands where none is due
abbrev pub FailsNext : List Due → List ℕ → Fault → Type 0
FailsNext [] bytes fault = Trailing bytes fault
FailsNext (due ∷ agenda) bytes fault = FailsAt due bytes fault

-- an entry has an atom and a name of the format
abbrev pub IsItem : Item → Type 0
IsItem (number value) = Unit {0}
IsItem (entry value name) = (1 ≤ value) × IsName name
IsItem (mark letter) = Unit {0}

-- some fields of those that are due stand one after the other, and the next one fails
pub record Breaks (agenda : List Due) (bytes : List ℕ) (fault : Fault) : Type 0 where
  pub items : List Item
  pub middle : List ℕ
  pub left : List Due
  pub row : PieceRow items bytes middle
  pub good : AllByRecursion IsItem items
  pub ran : run agenda items ≡ Some left
  pub fails : FailsNext left middle fault

-- the text is refused so, with the line and the value of what is named
pub record Refuses (bytes : List ℕ) (why : TextFault) (line value : ℕ) : Type 0 where
  pub fault : Fault
  pub breaks : Breaks whole bytes fault
  pub told_so : told bytes fault ≡ Text why line value

-- this error tells how the text is refused, or that memory ran out
abbrev pub IsRefused : List ℕ → ReadError → Type 0
IsRefused bytes NoMemory = Unit {0}
IsRefused bytes TooLong = ⊥
IsRefused bytes ReadFault = ⊥
IsRefused bytes (Text why line value) = Refuses bytes why line value

-- this result is the refusal, unless memory ran out
abbrev pub IsTextUnlessNoMemory : {A : Type 0} → Result A ReadError → TextFault → ℕ → ℕ → Type 0
IsTextUnlessNoMemory (Ok found) why line value = ⊥
IsTextUnlessNoMemory (Err NoMemory) why line value = Unit {0}
IsTextUnlessNoMemory (Err TooLong) why line value = ⊥
IsTextUnlessNoMemory (Err ReadFault) why line value = ⊥
IsTextUnlessNoMemory (Err (Text w l v)) why line value = Text w l v ≡ Text why line value

-- a source of these bytes may have this result: they read as the program, they are refused so, or
-- they are too long
abbrev pub IsOutcome : List ℕ → Result Program ReadError → Type 0
IsOutcome bytes (Ok program) = (length bytes ≤ 67108864) × Reads bytes program
IsOutcome bytes (Err (Text why line value)) =
    (length bytes ≤ 67108864) × Refuses bytes why line value
IsOutcome bytes (Err TooLong) = 67108864 < length bytes
IsOutcome bytes (Err ReadFault) = Unit {0}
IsOutcome bytes (Err NoMemory) = Unit {0}

-- a source of some bytes may have this result, and where it told its bytes, one of those
pub record IsOfSomeText (told : Option (List ℕ)) (result : Result Program ReadError) : Type 0 where
  pub bytes : List ℕ
  pub same : IfSome told (λ left. bytes ≡ left)
  pub outcome : IsOutcome bytes result

-- this result is the refusal, unless the source failed or memory ran out
abbrev pub IsTextUnlessSource : {A : Type 0} → Result A ReadError → TextFault → ℕ → ℕ → Type 0
IsTextUnlessSource (Ok found) why line value = ⊥
IsTextUnlessSource (Err NoMemory) why line value = Unit {0}
IsTextUnlessSource (Err TooLong) why line value = ⊥
IsTextUnlessSource (Err ReadFault) why line value = Unit {0}
IsTextUnlessSource (Err (Text w l v)) why line value = Text w l v ≡ Text why line value
