-- Which lines a text may have for given names and atoms, and which is the first that is none.
use Rattle.std.specs.Prelude.{◌≡◌, ◌≢◌, ◌<◌, ◌+◌, ◌^◌, ◌++◌, ℕ, Bool, false, List, [], length, All}
use Rattle.std.specs.Prelude.{Some, slice_get, ⊤, Result, Ok, Err}
use Rattle.std.specs.List.{AllByRecursion}
use Rattle.ground_program.specs.declared.program.Named.{Named}
use Rattle.ground_program.specs.Bounds.{IsCandidate}
use Rattle.report.specs.declared.lines.Line.{Line}
use Rattle.report.specs.declared.lines.Line.TheVariants.{Answer, SettledIn, SettledOut, Sizes}
use Rattle.report.specs.declared.lines.Line.TheVariants.{Watch, Unsettled, Unknown, Complete}
use Rattle.report.specs.declared.lines.Line.TheVariants.{Partial, Incoherent, NoMemory, Refused}
use Rattle.report.specs.Text.{text_of_line, text_of_lines}
use Rattle.report_reader.specs.declared.report_error.ReportError.{ReportError}
use Rattle.report_reader.specs.declared.report_error.ReportError.TheVariants.{NotALine}
use Rattle.report_reader.specs.declared.report_error.ReportError.TheVariants as errors

-- a number of 32 bits
abbrev pub IsSmall : ℕ → Type 0
IsSmall number = number < 2 ^ 32

-- a truth value for each position from 0 to the greatest atom, and none of position 0
pub record IsSetOver (atoms : ℕ) (set : List Bool) : Type 0 where
  pub size : length set ≡ atoms + 1
  pub zero : slice_get set 0 ≡ Some false

-- a number of 32 bits that is a candidate
pub record IsSmallCandidate (names : List Named) (cand : ℕ) : Type 0 where
  pub candidate : IsCandidate names cand
  pub small : IsSmall cand

-- the fields of a line have their ranges, for so many atoms and these names
abbrev pub IsLine : ℕ → List Named → Line → Type 0
IsLine atoms names (Answer number set) = IsSmall number × IsSetOver atoms set
IsLine atoms names (SettledIn cand by) = IsSmallCandidate names cand × IsSmall by
IsLine atoms names (SettledOut cand by) = IsSmallCandidate names cand × IsSmall by
IsLine atoms names (Sizes lower upper) = IsSmall lower × IsSmall upper
IsLine atoms names (Watch watcher lower upper) =
    IsSmall watcher × IsSmall lower × IsSmall upper
IsLine atoms names (Unsettled cand units) = IsSmallCandidate names cand × IsSmall units
IsLine atoms names (Unknown units) = IsSmall units
IsLine atoms names Complete = ⊤
IsLine atoms names Partial = ⊤
IsLine atoms names Incoherent = ⊤
IsLine atoms names NoMemory = ⊤
IsLine atoms names (Refused line why value) = IsSmall line × (value < 2 ^ 64)

-- no name has a line feed
abbrev pub AreOneLine : List Named → Type 0
AreOneLine names = All (λ named. All (λ byte. byte ≢ 10) named.name) names

-- the text is that of these lines
pub record IsTextOf (atoms : ℕ) (names : List Named) (text : List ℕ) (lines : List Line)
    : Type 0 where
  pub each : AllByRecursion (IsLine atoms names) lines
  pub same : text ≡ text_of_lines names lines

-- the line of this number, from 1, is the first that is no line of a report: lines stand before it,
-- and what comes then isn't nothing and begins with the text of no line
pub record IsFirstWrong (atoms : ℕ) (names : List Named) (text : List ℕ) (number : ℕ)
    : Type 0 where
  pub before : List Line
  pub rest : List ℕ
  pub each : AllByRecursion (IsLine atoms names) before
  pub parts : text ≡ text_of_lines names before ++ rest
  pub count : length before + 1 ≡ number
  pub some : rest ≢ []
  pub wrong : (line : Line) (after : List ℕ) → IsLine atoms names line
      → rest ≢ text_of_line names line ++ after

-- this error tells the number of the first line that is none, or that memory ran out
abbrev pub IsWhy : ℕ → List Named → List ℕ → ReportError → Type 0
IsWhy atoms names text (NotALine number) = IsFirstWrong atoms names text number
IsWhy atoms names text errors.NoMemory = ⊤

-- this result is these lines, unless memory ran out
abbrev pub AreLinesUnlessNoMemory : {A : Type 0} → (A → List Line) → Result A ReportError
    → List Line → Type 0
AreLinesUnlessNoMemory view (Ok found) lines = view found ≡ lines
AreLinesUnlessNoMemory view (Err (NotALine number)) lines = ⊥
AreLinesUnlessNoMemory view (Err errors.NoMemory) lines = ⊤

-- this result is NotALine of this number, unless memory ran out
abbrev pub IsNumberUnlessNoMemory : {A : Type 0} → Result A ReportError → ℕ → Type 0
IsNumberUnlessNoMemory (Ok found) number = ⊥
IsNumberUnlessNoMemory (Err (NotALine told)) number = told ≡ number
IsNumberUnlessNoMemory (Err errors.NoMemory) number = ⊤
