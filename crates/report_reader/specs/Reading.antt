-- Reading the words of one line from left to right: each field's value and the bytes behind it.
use Rattle.std.specs.Prelude.{◌≡◌, ◌==◌, ◌+◌, ◌^◌, ◌&&◌, ℕ, zero, suc, Bool, false, List, []}
use Rattle.std.specs.Prelude.{◌∷◌, if◌then◌else◌, length, nat_lt, nat_le, Option, Some, None}
use Rattle.std.specs.Prelude.{⊤, codes, decimal, find}
use Rattle.std.specs.Str.{bytes_eq}
use Rattle.std.specs.Str.Parse.{digits_value}
use Rattle.ground_program.specs.declared.program.Named.{Named}
use Rattle.report.specs.declared.lines.Why.{Why}
use Rattle.report.specs.declared.lines.Why.TheVariants.{NotANumber, UnknownKind, MinimizeRule}
use Rattle.report.specs.declared.lines.Why.TheVariants.{AtomZero, NumberTooLarge, NegativeCount}
use Rattle.report.specs.declared.lines.Why.TheVariants.{MissingMark, ExternalSection, NameMissing}
use Rattle.report.specs.declared.lines.Why.TheVariants.{EndOfInput, TrailingText, TooLong}
use Rattle.report.specs.declared.lines.Why.TheVariants.{ReadFault, TooManyVariables, Words}
use Rattle.report.specs.declared.lines.Line.{Line}
use Rattle.report.specs.declared.lines.Line.TheVariants as lines
use Rattle.report.specs.Text.{name_of, field, text_of_why}
use Rattle.report_reader.specs.declared.word_text.Word.{Word}
use Rattle.report_reader.specs.declared.word_text.Word.TheVariants.{Answer, In, Out, Pair, Watch}
use Rattle.report_reader.specs.declared.word_text.Word.TheVariants.{Open, Unknown, Complete}
use Rattle.report_reader.specs.declared.word_text.Word.TheVariants.{Partial, Incoherent, NoMemory}
use Rattle.report_reader.specs.declared.word_text.Word.TheVariants.{Refused}

-- without one part there is no whole
infixl 10 ◌>>=◌
abbrev pub ◌>>=◌ : {A B : Type 0} → Option A → (A → Option B) → Option B
(Some x) >>= next = next x
None >>= next = None

-- a function gave what a reading gives
abbrev pub IsReading : {A B : Type 0} → (A → B) → Option A → Option B → Type 0
IsReading view (Some x) reading = reading ≡ Some (view x)
IsReading view None reading = reading ≡ None

-- a field: what stands in some bytes, and the bytes behind it
abbrev pub Field : Type 0 → Type 0
Field A = List ℕ → Option (A × List ℕ)

-- the bytes before the first such byte
abbrev pub before : ℕ → List ℕ → List ℕ
before end [] = []
before end (byte ∷ rest) = if byte == end then [] else byte ∷ before end rest

-- the bytes from the first such byte on
abbrev pub onward : ℕ → List ℕ → List ℕ
onward end [] = []
onward end (byte ∷ rest) = if byte == end then byte ∷ rest else onward end rest

-- the text of a field: a blank, and then the bytes up to the next blank
abbrev pub field_at : Field (List ℕ)
field_at [] = None
field_at (byte ∷ rest) = if byte == 32 then Some (before 32 rest, onward 32 rest) else None

-- the number of 64 bits whose decimal text this is
unfoldable pub number_of : List ℕ → Option ℕ
number_of text =
    if nat_lt (digits_value 10 text) (2 ^ 64) && bytes_eq (decimal (digits_value 10 text)) text
    then Some (digits_value 10 text) else None

-- a number of 64 bits
unfoldable pub number_at : Field ℕ
number_at bytes = do
  text ← field_at bytes
  number ← number_of text.0
  Some (number, text.1)

-- a number of 32 bits
unfoldable pub small_at : Field ℕ
small_at bytes = do
  number ← number_at bytes
  if nat_lt number.0 (2 ^ 32) then Some number else None

-- nothing more
abbrev pub end_at : List ℕ → Option ⊤
end_at [] = Some tt
end_at (byte ∷ rest) = None

-- there is such a candidate, and a blank and its name are the bytes
abbrev pub is_named : List Named → ℕ → List ℕ → Bool
is_named names cand bytes =
    nat_le 1 cand && nat_le cand (length names) && bytes_eq (field (name_of names cand)) bytes

-- a candidate and a number of 32 bits, and then the candidate's name up to the end
unfoldable pub named_at : List Named → List ℕ → Option (ℕ × ℕ)
named_at names bytes = do
  cand ← small_at bytes
  number ← small_at cand.1
  if is_named names cand.0 number.1 then Some (cand.0, number.0) else None

-- numbers of 32 bits up to the end, at most so many
unfoldable pub numbers_at : ℕ → List ℕ → Option (List ℕ)
numbers_at most [] = Some []
numbers_at zero (byte ∷ rest) = None
numbers_at (suc most) (byte ∷ rest) = do
  first ← small_at (byte ∷ rest)
  others ← numbers_at most first.1
  Some (first.0 ∷ others)

-- the first of the numbers is this one
abbrev pub begins_with : ℕ → List ℕ → Bool
begins_with at [] = false
begins_with at (number ∷ rest) = number == at

-- the numbers without the first where it is this one
abbrev pub without_first : ℕ → List ℕ → List ℕ
without_first at [] = []
without_first at (number ∷ rest) = if number == at then rest else number ∷ rest

-- so many truth values from position `at` on, of which those at these positions are true
unfoldable pub values_at : ℕ → ℕ → List ℕ → Option (List Bool)
values_at zero at [] = Some []
values_at zero at (number ∷ rest) = None
values_at (suc count) at numbers = do
  others ← values_at count (at + 1) (without_first at numbers)
  Some (begins_with at numbers ∷ others)

-- the set of these atoms, where they ascend and there are so many
unfoldable pub set_at : ℕ → List ℕ → Option (List Bool)
set_at atoms numbers = do
  values ← values_at atoms 1 numbers
  Some (false ∷ values)

-- the word that begins a line
abbrev pub text_of_word : Word → List ℕ
text_of_word Answer = codes "ANSWER"
text_of_word In = codes "IN"
text_of_word Out = codes "OUT"
text_of_word Pair = codes "PAIR"
text_of_word Watch = codes "WATCH"
text_of_word Open = codes "OPEN"
text_of_word Unknown = codes "UNKNOWN"
text_of_word Complete = codes "COMPLETE"
text_of_word Partial = codes "PARTIAL"
text_of_word Incoherent = codes "INCOHERENT"
text_of_word NoMemory = codes "NOMEMORY"
text_of_word Refused = codes "REFUSED"

-- all words
abbrev pub all_words : List Word
all_words =
    Answer ∷ In ∷ Out ∷ Pair ∷ Watch ∷ Open ∷ Unknown ∷ Complete ∷ Partial ∷ Incoherent
    ∷ NoMemory ∷ Refused ∷ []

-- the word of this text
unfoldable pub word_at : List ℕ → Option Word
word_at text = find (λ word. bytes_eq text (text_of_word word)) all_words

-- all refusals
abbrev pub all_whys : List Why
all_whys =
    NotANumber ∷ UnknownKind ∷ MinimizeRule ∷ AtomZero ∷ NumberTooLarge ∷ NegativeCount
    ∷ MissingMark ∷ ExternalSection ∷ NameMissing ∷ EndOfInput ∷ TrailingText ∷ TooLong
    ∷ ReadFault ∷ TooManyVariables ∷ Words ∷ []

-- the refusal whose word this is
unfoldable pub why_at : List ℕ → Option Why
why_at text = find (λ why. bytes_eq text (text_of_why why)) all_whys

-- a line of each word, from the bytes behind it
unfoldable pub answer_at : ℕ → List ℕ → Option Line
answer_at atoms bytes = do
  number ← small_at bytes
  numbers ← numbers_at (length number.1) number.1
  set ← set_at atoms numbers
  Some (lines.Answer number.0 set)

unfoldable pub in_at : List Named → List ℕ → Option Line
in_at names bytes = do
  named ← named_at names bytes
  Some (lines.SettledIn named.0 named.1)

unfoldable pub out_at : List Named → List ℕ → Option Line
out_at names bytes = do
  named ← named_at names bytes
  Some (lines.SettledOut named.0 named.1)

unfoldable pub open_at : List Named → List ℕ → Option Line
open_at names bytes = do
  named ← named_at names bytes
  Some (lines.Unsettled named.0 named.1)

unfoldable pub pair_at : List ℕ → Option Line
pair_at bytes = do
  lower ← small_at bytes
  upper ← small_at lower.1
  end ← end_at upper.1
  Some (lines.Sizes lower.0 upper.0)

unfoldable pub watch_at : List ℕ → Option Line
watch_at bytes = do
  watcher ← small_at bytes
  lower ← small_at watcher.1
  upper ← small_at lower.1
  end ← end_at upper.1
  Some (lines.Watch watcher.0 lower.0 upper.0)

unfoldable pub unknown_at : List ℕ → Option Line
unknown_at bytes = do
  units ← small_at bytes
  end ← end_at units.1
  Some (lines.Unknown units.0)

unfoldable pub refused_at : List ℕ → Option Line
refused_at bytes = do
  line ← small_at bytes
  text ← field_at line.1
  why ← why_at text.0
  value ← number_at text.1
  end ← end_at value.1
  Some (lines.Refused line.0 why value.0)

-- a line that is its word alone
unfoldable pub alone_at : Line → List ℕ → Option Line
alone_at line bytes = do
  end ← end_at bytes
  Some line

-- the line of a word, from the bytes behind it
abbrev pub form_at : ℕ → List Named → Word → List ℕ → Option Line
form_at atoms names Answer bytes = answer_at atoms bytes
form_at atoms names In bytes = in_at names bytes
form_at atoms names Out bytes = out_at names bytes
form_at atoms names Pair bytes = pair_at bytes
form_at atoms names Watch bytes = watch_at bytes
form_at atoms names Open bytes = open_at names bytes
form_at atoms names Unknown bytes = unknown_at bytes
form_at atoms names Complete bytes = alone_at lines.Complete bytes
form_at atoms names Partial bytes = alone_at lines.Partial bytes
form_at atoms names Incoherent bytes = alone_at lines.Incoherent bytes
form_at atoms names NoMemory bytes = alone_at lines.NoMemory bytes
form_at atoms names Refused bytes = refused_at bytes

-- the line of these words
unfoldable pub line_at : ℕ → List Named → List ℕ → Option Line
line_at atoms names words = do
  word ← word_at (before 32 words)
  form_at atoms names word (onward 32 words)

-- a line of these words and the bytes behind its line feed, where that stands
abbrev pub line_before : ℕ → List Named → List ℕ → List ℕ → Option (Line × List ℕ)
line_before atoms names words [] = None
line_before atoms names words (feed ∷ after) = do
  line ← line_at atoms names words
  Some (line, after)

-- the first line of a text, and the bytes behind it
unfoldable pub first_at : ℕ → List Named → Field Line
first_at atoms names text = line_before atoms names (before 10 text) (onward 10 text)
