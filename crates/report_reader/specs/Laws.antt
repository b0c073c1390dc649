-- The text of lines tells the lines.
use Rattle.std.specs.Prelude.{◌≡◌, ℕ, List}
use Rattle.std.specs.List.{AllByRecursion}
use Rattle.ground_program.specs.declared.program.Named.{Named}
use Rattle.report.specs.declared.lines.Line.{Line}
use Rattle.report.specs.Text.{text_of_lines}
use Rattle.report_reader.specs.Lines.{IsLine, IsSmall, AreOneLine}

-- two lists of lines with one text are one list
abbrev pub TextTellsLines : Type 0
TextTellsLines =
    (atoms : ℕ) (names : List Named) (one two : List Line) → IsSmall atoms → AreOneLine names
    → AllByRecursion (IsLine atoms names) one → AllByRecursion (IsLine atoms names) two
    → text_of_lines names one ≡ text_of_lines names two → one ≡ two
