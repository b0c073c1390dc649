-- The text of a report: numbers are decimal, a blank stands before each field, and each line ends
-- with a line feed.
use Rattle.std.specs.Prelude.{ℕ, ◌+◌, ◌-◌, Bool, true, false, List, [], ◌∷◌, ◌++◌, flat_map}
use Rattle.std.specs.Prelude.{slice_get, codes, decimal, ⊤}
use Rattle.std.specs.Option.{option_map_or}
use Rattle.ground_program.specs.declared.program.Named.{Named}
use Rattle.ground_program.specs.Bounds.{IsCandidate}
use Rattle.report.specs.declared.lines.Line.{Line}
use Rattle.report.specs.declared.lines.Line.TheVariants.{Answer, SettledIn, SettledOut, Sizes}
use Rattle.report.specs.declared.lines.Line.TheVariants.{Watch, Unsettled, Unknown, Complete}
use Rattle.report.specs.declared.lines.Line.TheVariants.{Partial, Incoherent, NoMemory, Refused}
use Rattle.report.specs.declared.lines.Why.{Why}
use Rattle.report.specs.declared.lines.Why.TheVariants.{NotANumber, UnknownKind, MinimizeRule}
use Rattle.report.specs.declared.lines.Why.TheVariants.{AtomZero, NumberTooLarge, NegativeCount}
use Rattle.report.specs.declared.lines.Why.TheVariants.{MissingMark, ExternalSection, NameMissing}
use Rattle.report.specs.declared.lines.Why.TheVariants.{EndOfInput, TrailingText, TooLong}
use Rattle.report.specs.declared.lines.Why.TheVariants.{ReadFault, TooManyVariables, Words}

-- the name of a candidate
abbrev pub name_of : List Named → ℕ → List ℕ
name_of names cand = option_map_or (λ named. named.name) (slice_get names (cand - 1)) []

-- a field: a blank and its text
abbrev pub field : List ℕ → List ℕ
field text = codes " " ++ text

-- numbers, each a field of its own
abbrev pub fields : List ℕ → List ℕ
fields numbers = flat_map (λ number. field (decimal number)) numbers

-- the positions of the true values, ascending, where the first value has position `at`
abbrev pub positions_from : ℕ → List Bool → List ℕ
positions_from at [] = []
positions_from at (true ∷ rest) = at ∷ positions_from (at + 1) rest
positions_from at (false ∷ rest) = positions_from (at + 1) rest

-- the word for a refusal
abbrev pub text_of_why : Why → List ℕ
text_of_why NotANumber = codes "NotANumber"
text_of_why UnknownKind = codes "UnknownKind"
text_of_why MinimizeRule = codes "MinimizeRule"
text_of_why AtomZero = codes "AtomZero"
text_of_why NumberTooLarge = codes "NumberTooLarge"
text_of_why NegativeCount = codes "NegativeCount"
text_of_why MissingMark = codes "MissingMark"
text_of_why ExternalSection = codes "ExternalSection"
text_of_why NameMissing = codes "NameMissing"
text_of_why EndOfInput = codes "EndOfInput"
text_of_why TrailingText = codes "TrailingText"
text_of_why TooLong = codes "TooLong"
text_of_why ReadFault = codes "ReadFault"
text_of_why TooManyVariables = codes "TooManyVariables"
text_of_why Words = codes "Words"

-- the text of a line without its line feed
abbrev pub words_of_line : List Named → Line → List ℕ
words_of_line names (Answer number set) = codes "ANSWER" ++ fields (number ∷ positions_from 0 set)
words_of_line names (SettledIn cand by) =
    codes "IN" ++ fields (cand ∷ by ∷ []) ++ field (name_of names cand)
words_of_line names (SettledOut cand by) =
    codes "OUT" ++ fields (cand ∷ by ∷ []) ++ field (name_of names cand)
words_of_line names (Sizes lower upper) = codes "PAIR" ++ fields (lower ∷ upper ∷ [])
words_of_line names (Watch watcher lower upper) =
    codes "WATCH" ++ fields (watcher ∷ lower ∷ upper ∷ [])
words_of_line names (Unsettled cand units) =
    codes "OPEN" ++ fields (cand ∷ units ∷ []) ++ field (name_of names cand)
words_of_line names (Unknown units) = codes "UNKNOWN" ++ fields (units ∷ [])
words_of_line names Complete = codes "COMPLETE"
words_of_line names Partial = codes "PARTIAL"
words_of_line names Incoherent = codes "INCOHERENT"
words_of_line names NoMemory = codes "NOMEMORY"
words_of_line names (Refused line why value) =
    codes "REFUSED" ++ fields (line ∷ []) ++ field (text_of_why why) ++ field (decimal value)

-- the text of a line
abbrev pub text_of_line : List Named → Line → List ℕ
text_of_line names line = words_of_line names line ++ 10 ∷ []

-- the text of lines, one after another
abbrev pub text_of_lines : List Named → List Line → List ℕ
text_of_lines names lines = flat_map (text_of_line names) lines

-- the candidate of a line, where it has one, is a number of the names
abbrev pub NamesCandidate : List Named → Line → Type 0
NamesCandidate names (SettledIn cand by) = IsCandidate names cand
NamesCandidate names (SettledOut cand by) = IsCandidate names cand
NamesCandidate names (Unsettled cand units) = IsCandidate names cand
NamesCandidate names _ = ⊤
