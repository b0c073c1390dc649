-- What is said of canonical texts as a whole.
use Rattle.std.specs.Prelude.{◌≡◌, ◌≤◌, ◌⊎◌, ℕ, List, length, Ok}
use Rattle.ground_program.specs.declared.program.Program.{Program}
use Rattle.ground_program.specs.Program.{IsProgram}
use Rattle.lparse_reader.specs.Pieces.{Reads}
use Rattle.lparse_reader.specs.declared.fault.TextFault.{TextFault}
use Rattle.lparse_reader.specs.Reading.{program_at}
use Rattle.lparse_reader.specs.Refuses.{Refuses}
use Rattle.lparse_reader.specs.Text.{text}

-- the text of a program is a row of pieces for that program
abbrev pub TextReadsBack : Type 0
TextReadsBack = (program : Program) → IsProgram program → Reads (text program) program

-- reading the text of a program gives that program
abbrev pub ReadingGivesBack : Type 0
ReadingGivesBack = (program : Program) → IsProgram program → program_at (text program) ≡ Ok program

-- two programs with one text are the same
abbrev pub TextTellsProgram : Type 0
TextTellsProgram =
    (one other : Program) → IsProgram one → IsProgram other → text one ≡ text other → one ≡ other

-- the text reads as this program and as no other, and isn't refused
pub record OnlyReads (bytes : List ℕ) (program : Program) : Type 0 where
  pub reads : Reads bytes program
  pub no_other : (other : Program) → Reads bytes other → other ≡ program
  pub no_refusal : (why : TextFault) (line value : ℕ) → ¬ Refuses bytes why line value

-- the text is refused so and not otherwise, and has no reading
pub record OnlyRefuses (bytes : List ℕ) (why : TextFault) (line value : ℕ) : Type 0 where
  pub refuses : Refuses bytes why line value
  pub no_other : (cause : TextFault) (at number : ℕ) → Refuses bytes cause at number
      → (cause ≡ why) × (at ≡ line) × (number ≡ value)
  pub no_reading : (program : Program) → ¬ Reads bytes program

-- the text has one reading and no refusal, or one refusal and no reading
abbrev pub HasOneOutcome : List ℕ → Type 0
HasOneOutcome bytes =
    ((program : Program) × OnlyReads bytes program)
    ⊎ ((why : TextFault) × (line : ℕ) × (value : ℕ) × OnlyRefuses bytes why line value)

-- each text that isn't too long has one outcome
abbrev pub EachHasOneOutcome : Type 0
EachHasOneOutcome = (bytes : List ℕ) → length bytes ≤ 67108864 → HasOneOutcome bytes
