-- How the first fault of a text is told.
use Rattle.std.specs.Prelude.{◌≡◌, ℕ, List, length, Result, Ok, Err}
use Rattle.ground_program.specs.declared.program.Program.{Program}
use Rattle.lparse_reader.specs.declared.fault.TextFault.TheVariants.{EndOfInput}
use Rattle.lparse_reader.specs.declared.fault.Fault.{Fault}
use Rattle.lparse_reader.specs.declared.fault.Fault.TheVariants.{Ended, At}
use Rattle.lparse_reader.specs.declared.fault.ReadError.{ReadError}
use Rattle.lparse_reader.specs.declared.fault.ReadError.TheVariants.{Text, TooLong, ReadFault}
use Rattle.lparse_reader.specs.declared.fault.ReadError.TheVariants.{NoMemory}
use Rattle.lparse_reader.specs.Tokens.{line_at}

-- a fault with the line that it names; the end of a text lies on its last line, behind all bytes
abbrev pub told : List ℕ → Fault → ReadError
told text Ended = Text EndOfInput (line_at text 0) (length text)
told text (At why left value) = Text why (line_at text left) value

-- this error tells the fault of a reading, or that memory ran out
abbrev pub IsRefusal : {A : Type 0} → List ℕ → ReadError → Result A Fault → Type 0
IsRefusal text NoMemory reading = Unit {0}
IsRefusal text TooLong reading = ⊥
IsRefusal text ReadFault reading = ⊥
IsRefusal text (Text why line value) reading =
    (fault : Fault) × (reading ≡ Err fault) × (told text fault ≡ Text why line value)

-- this result is the program, unless memory ran out
abbrev pub IsProgramUnlessNoMemory : Result Program ReadError → Program → Type 0
IsProgramUnlessNoMemory (Ok found) program = found ≡ program
IsProgramUnlessNoMemory (Err NoMemory) program = Unit {0}
IsProgramUnlessNoMemory (Err TooLong) program = ⊥
IsProgramUnlessNoMemory (Err ReadFault) program = ⊥
IsProgramUnlessNoMemory (Err (Text why line value)) program = ⊥

-- this result is what a reading of the text gives
abbrev pub IsReadAnswer : {A : Type 0} → List ℕ → Result A ReadError → Result A Fault → Type 0
IsReadAnswer text (Ok value) reading = reading ≡ Ok value
IsReadAnswer text (Err error) reading = IsRefusal text error reading

-- this result is the program, unless its source failed or memory ran out
abbrev pub IsProgramUnlessSource : Result Program ReadError → Program → Type 0
IsProgramUnlessSource (Ok found) program = found ≡ program
IsProgramUnlessSource (Err NoMemory) program = Unit {0}
IsProgramUnlessSource (Err TooLong) program = ⊥
IsProgramUnlessSource (Err ReadFault) program = Unit {0}
IsProgramUnlessSource (Err (Text why line value)) program = ⊥

-- where a result says what a whole text is, a program or a fault of it, this holds
abbrev pub OnText : {A : Type 0} → Result A ReadError → Type 0 → Type 0
OnText (Ok value) P = P
OnText (Err (Text why line value)) P = P
OnText (Err NoMemory) P = Unit {0}
OnText (Err TooLong) P = Unit {0}
OnText (Err ReadFault) P = Unit {0}
