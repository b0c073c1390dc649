-- Texts: each is the text of one list of lines at most, or has one first line that is none.
use Rattle.std.proofs.Common.{◌≡◌, ◌≢◌, ℕ, zero, suc, ◌+◌, ◌<◌, ◌^◌, List, [], ◌∷◌, ◌++◌, length}
use Rattle.std.proofs.Common.{refl, sym, ap, subst, ◌∙◌, arith, decimal, append_assoc}
use Rattle.std.specs.Prelude.{Option, Some, None, slice_get, codes, ◌-◌, All, Result, Ok, Err}
use Rattle.std.specs.Prelude.{IfOk, IfErr}
use Rattle.std.specs.List.{AllByRecursion}
use Rattle.std.specs.Option.{option_map_or}
use Rattle.std.proofs.lemmas.Bool.{ne_eqb, eqb-true}
use Rattle.std.proofs.lemmas.List.Elements.{All-head, All-tail}
use Rattle.std.proofs.lemmas.Option.{same_Some}
use Rattle.ground_program.specs.declared.program.Named.{Named}
use Rattle.report.specs.declared.lines.Line.{Line}
use Rattle.report.specs.declared.lines.Line.TheVariants as lines
use Rattle.report.specs.Text.{name_of, field, fields, positions_from, text_of_why, words_of_line}
use Rattle.report.specs.Text.{text_of_line, text_of_lines}
use Rattle.report_reader.specs.declared.report_error.ReportError.{ReportError}
use Rattle.report_reader.specs.declared.report_error.ReportError.TheVariants.{NotALine}
use Rattle.report_reader.specs.declared.report_error.ReportError.TheVariants as errors
use Rattle.report_reader.specs.declared.word_text.Word.TheVariants as words
use Rattle.report_reader.specs.Lines.{IsSmall, IsLine, AreOneLine, IsTextOf}
use Rattle.report_reader.specs.Lines.{IsFirstWrong, IsWhy, AreLinesUnlessNoMemory}
use Rattle.report_reader.specs.Lines.{IsNumberUnlessNoMemory}
use Rattle.report_reader.specs.Reading.{◌>>=◌, before, onward, line_at, line_before}
use Rattle.report_reader.specs.Reading.{first_at}
use Rattle.report_reader.proofs.FieldLemmas.{bind_is, no_some, Lacks, Begins, before_then}
use Rattle.report_reader.proofs.FieldLemmas.{onward_then, onward_begins, split_parts, lacks_append}
use Rattle.report_reader.proofs.FieldLemmas.{decimal_lacks, no_digit_feed, AreSmall}
use Rattle.report_reader.proofs.SetLemmas.{positions_small}
use Rattle.report_reader.proofs.WordLemmas.{word_lacks_feed, why_lacks_feed}
use Rattle.report_reader.proofs.LineLemmas.{line_again, line_takes}

-- ---- the words of a line have no line feed

field_lacks : (text : List ℕ) → Lacks 10 text → Lacks 10 (field text)
field_lacks text lacks = (refl, lacks)

number_lacks : (number : ℕ) → number < 2 ^ 64 → Lacks 10 (field (decimal number))
number_lacks number fits =
    field_lacks (decimal number) (decimal_lacks 10 number no_digit_feed fits)

fields_lack : (numbers : List ℕ) → AreSmall numbers → Lacks 10 (fields numbers)
fields_lack [] small = tt
fields_lack (number ∷ numbers) small =
    lacks_append 10 (field (decimal number)) (fields numbers)
    (number_lacks number (omega (arith, small.0))) (fields_lack numbers small.1)

bytes_lack : (bytes : List ℕ) → All (λ byte. byte ≢ 10) bytes → Lacks 10 bytes
bytes_lack [] all = tt
bytes_lack (byte ∷ bytes) all = (
  ne_eqb byte 10 (All-head (λ (b : ℕ). b ≢ 10) byte bytes all),
  bytes_lack bytes (All-tail (λ (b : ℕ). b ≢ 10) byte bytes all),
)

-- no byte of the entry's name is a line feed
abbrev IsOneLine : Named → Type 0
IsOneLine named = All (λ byte. byte ≢ 10) named.name

-- the name of a candidate is that of an entry or has no byte
name_lacks : (names : List Named) (place : ℕ) → AreOneLine names
    → Lacks 10 (option_map_or (λ named. named.name) (slice_get names place) [])
name_lacks [] zero one_line = tt
name_lacks [] (suc place) one_line = tt
name_lacks (named ∷ names) zero one_line =
    bytes_lack named.name (All-head IsOneLine named names one_line)
name_lacks (named ∷ names) (suc place) one_line =
    name_lacks names place (All-tail IsOneLine named names one_line)

named_lacks : (word : List ℕ) (names : List Named) (cand number : ℕ) → Lacks 10 word
    → AreOneLine names → IsSmall cand → IsSmall number
    → Lacks 10 (word ++ fields (cand ∷ number ∷ []) ++ field (name_of names cand))
named_lacks word names cand number lacks one_line small also =
    lacks_append 10 (word ++ fields (cand ∷ number ∷ [])) (field (name_of names cand))
    (lacks_append 10 word (fields (cand ∷ number ∷ [])) lacks
    (fields_lack (cand ∷ number ∷ []) (small, (also, tt))))
    (field_lacks (name_of names cand) (name_lacks names (cand - 1) one_line))

pub words_lack : (atoms : ℕ) (names : List Named) (line : Line) → IsSmall atoms
    → AreOneLine names → IsLine atoms names line → Lacks 10 (words_of_line names line)
words_lack atoms names (lines.Answer number set) few one_line is =
    lacks_append 10 (codes "ANSWER") (fields (number ∷ positions_from 0 set))
    (word_lacks_feed words.Answer)
    (fields_lack (number ∷ positions_from 0 set)
    (is.0, positions_small 0 set (omega (arith, few, is.1.size))))
words_lack atoms names (lines.SettledIn cand by) few one_line is =
    named_lacks (codes "IN") names cand by (word_lacks_feed words.In) one_line is.0.small is.1
words_lack atoms names (lines.SettledOut cand by) few one_line is =
    named_lacks (codes "OUT") names cand by (word_lacks_feed words.Out) one_line is.0.small is.1
words_lack atoms names (lines.Sizes lower upper) few one_line is =
    lacks_append 10 (codes "PAIR") (fields (lower ∷ upper ∷ [])) (word_lacks_feed words.Pair)
    (fields_lack (lower ∷ upper ∷ []) (is.0, (is.1, tt)))
words_lack atoms names (lines.Watch watcher lower upper) few one_line is =
    lacks_append 10 (codes "WATCH") (fields (watcher ∷ lower ∷ upper ∷ []))
    (word_lacks_feed words.Watch)
    (fields_lack (watcher ∷ lower ∷ upper ∷ []) (is.0, (is.1, (is.2, tt))))
words_lack atoms names (lines.Unsettled cand units) few one_line is =
    named_lacks (codes "OPEN") names cand units (word_lacks_feed words.Open) one_line
    is.0.small is.1
words_lack atoms names (lines.Unknown units) few one_line is =
    lacks_append 10 (codes "UNKNOWN") (fields (units ∷ [])) (word_lacks_feed words.Unknown)
    (fields_lack (units ∷ []) (is, tt))
words_lack atoms names lines.Complete few one_line is = word_lacks_feed words.Complete
words_lack atoms names lines.Partial few one_line is = word_lacks_feed words.Partial
words_lack atoms names lines.Incoherent few one_line is = word_lacks_feed words.Incoherent
words_lack atoms names lines.NoMemory few one_line is = word_lacks_feed words.NoMemory
words_lack atoms names (lines.Refused line why value) few one_line is =
    lacks_append 10 (codes "REFUSED" ++ fields (line ∷ []) ++ field (text_of_why why))
    (field (decimal value))
    (lacks_append 10 (codes "REFUSED" ++ fields (line ∷ [])) (field (text_of_why why))
    (lacks_append 10 (codes "REFUSED") (fields (line ∷ [])) (word_lacks_feed words.Refused)
    (fields_lack (line ∷ []) (is.0, tt)))
    (field_lacks (text_of_why why) (why_lacks_feed why)))
    (number_lacks value is.1)

-- ---- the first line of a text

-- a text that begins with a line gives that line first
pub first_again : (atoms : ℕ) (names : List Named) (line : Line) (after : List ℕ) → IsSmall atoms
    → AreOneLine names → IsLine atoms names line
    → first_at atoms names (text_of_line names line ++ after) ≡ Some (line, after)
unfolding first_at
first_again atoms names line after few one_line is =
    let words = words_of_line names line in
    let lacks = words_lack atoms names line few one_line is in
    let group : text_of_line names line ++ after ≡ words ++ 10 ∷ after =
    append_assoc words (10 ∷ []) after in
    ap (λ (t : List ℕ). line_before atoms names (before 10 t) (onward 10 t)) group
    ∙ ap (λ (t : List ℕ). line_before atoms names t (onward 10 (words ++ 10 ∷ after)))
    (before_then 10 words (10 ∷ after) lacks refl)
    ∙ ap (λ (t : List ℕ). line_before atoms names words t)
    (onward_then 10 words (10 ∷ after) lacks refl)
    ∙ ap (λ (read : Option Line). read >>= (λ found. Some (found, after)))
    (line_again atoms names line few is)

-- a line was read first, and the rest
pub record TookFirst (atoms : ℕ) (names : List Named) (text : List ℕ) (line : Line)
    (after : List ℕ) : Type 0 where
  pub is : IsLine atoms names line
  pub parts : text ≡ text_of_line names line ++ after

first_step : (atoms : ℕ) (names : List Named) (text words tail : List ℕ) (line : Line)
    (after : List ℕ) → text ≡ words ++ tail → Begins 10 tail
    → line_before atoms names words tail ≡ Some (line, after)
    → TookFirst atoms names text line after
first_step atoms names text words [] line after parts begins e =
    absurd (no_some (line, after) e)
first_step atoms names text words (feed ∷ rest) line after parts begins e =
    let found =
    bind_is (line_at atoms names words) (λ found. Some (found, rest)) (line, after) e in
    let took = line_takes atoms names words found.item found.is in
    let same = same_Some (found.item, rest) (line, after) found.leads in
    let line_is : found.item ≡ line = ap (λ (p : Line × List ℕ). p.0) same in
    let after_is : rest ≡ after = ap (λ (p : Line × List ℕ). p.1) same in
    subst (λ (l : Line). TookFirst atoms names text l after) line_is
    (record {
      is = took.is;
      parts =
          parts ∙ ap (λ (t : List ℕ). t ++ feed ∷ rest) (sym took.same)
          ∙ ap (λ (f : ℕ). words_of_line names found.item ++ f ∷ rest) (eqb-true feed 10 begins)
          ∙ ap (λ (r : List ℕ). words_of_line names found.item ++ 10 ∷ r) after_is
          ∙ sym (append_assoc (words_of_line names found.item) (10 ∷ []) after);
    })

pub first_takes : (atoms : ℕ) (names : List Named) (text : List ℕ) (line : Line)
    (after : List ℕ) → first_at atoms names text ≡ Some (line, after)
    → TookFirst atoms names text line after
unfolding first_at
first_takes atoms names text line after e =
    first_step atoms names text (before 10 text) (onward 10 text) line after
    (split_parts 10 text) (onward_begins 10 text) e

-- nothing begins with no line
nothing_first : (atoms : ℕ) (names : List Named) → first_at atoms names [] ≡ None
unfolding first_at
nothing_first atoms names = refl

-- ---- all lines of a text

-- both texts begin with a line, so it is one line, and the rests are one
pub same_first : (atoms : ℕ) (names : List Named) (one two : Line) (rest others : List ℕ)
    → IsSmall atoms → AreOneLine names → IsLine atoms names one → IsLine atoms names two
    → text_of_line names one ++ rest ≡ text_of_line names two ++ others
    → ◌≡◌ {A = Line × List ℕ} (one, rest) (two, others)
same_first atoms names one two rest others few one_line is also same =
    same_Some (one, rest) (two, others)
    (sym (first_again atoms names one rest few one_line is)
    ∙ ap (first_at atoms names) same
    ∙ first_again atoms names two others few one_line also)

-- a text that begins with a line isn't empty
pub some_first : (atoms : ℕ) (names : List Named) (line : Line) (rest : List ℕ) → IsSmall atoms
    → AreOneLine names → IsLine atoms names line → [] ≡ text_of_line names line ++ rest → ⊥
some_first atoms names line rest few one_line is empty =
    no_some (line, rest)
    (sym (nothing_first atoms names) ∙ ap (first_at atoms names) empty
    ∙ first_again atoms names line rest few one_line is)

-- two lists of lines with one text are one list
pub text_tells : (atoms : ℕ) (names : List Named) (one two : List Line) → IsSmall atoms
    → AreOneLine names → AllByRecursion (IsLine atoms names) one
    → AllByRecursion (IsLine atoms names) two
    → text_of_lines names one ≡ text_of_lines names two → one ≡ two
text_tells atoms names [] [] few one_line each also same = refl
text_tells atoms names [] (line ∷ two) few one_line each also same =
    absurd (some_first atoms names line (text_of_lines names two) few one_line also.0 same)
text_tells atoms names (line ∷ one) [] few one_line each also same =
    absurd (some_first atoms names line (text_of_lines names one) few one_line each.0 (sym same))
text_tells atoms names (line ∷ one) (other ∷ two) few one_line each also same =
    let first =
    same_first atoms names line other (text_of_lines names one) (text_of_lines names two) few
    one_line each.0 also.0 same in
    ap (λ (l : Line). l ∷ one) (ap (λ (p : Line × List ℕ). p.0) first)
    ∙ ap (λ (ls : List Line). other ∷ ls)
    (text_tells atoms names one two few one_line each.1 also.1
    (ap (λ (p : Line × List ℕ). p.1) first))

-- a text of lines has no first line that is none
pub no_wrong : (atoms : ℕ) (names : List Named) (before lines : List Line) (rest : List ℕ)
    → IsSmall atoms → AreOneLine names → AllByRecursion (IsLine atoms names) before
    → AllByRecursion (IsLine atoms names) lines → rest ≢ []
    → ((line : Line) (after : List ℕ) → IsLine atoms names line
    → rest ≢ text_of_line names line ++ after)
    → text_of_lines names before ++ rest ≡ text_of_lines names lines → ⊥
no_wrong atoms names [] [] rest few one_line each also some wrong same = some same
no_wrong atoms names [] (line ∷ lines) rest few one_line each also some wrong same =
    wrong line (text_of_lines names lines) also.0 same
no_wrong atoms names (line ∷ before) [] rest few one_line each also some wrong same =
    some_first atoms names line (text_of_lines names before ++ rest) few one_line each.0
    (sym same
    ∙ append_assoc (text_of_line names line) (text_of_lines names before) rest)
no_wrong atoms names (line ∷ before) (other ∷ lines) rest few one_line each also some wrong same =
    let first =
    same_first atoms names line other (text_of_lines names before ++ rest)
    (text_of_lines names lines) few one_line each.0 also.0
    (sym (append_assoc (text_of_line names line) (text_of_lines names before) rest) ∙ same) in
    no_wrong atoms names before lines rest few one_line each.1 also.1 some wrong
    (ap (λ (p : Line × List ℕ). p.1) first)

-- a text has one first line that is none
pub one_wrong : (atoms : ℕ) (names : List Named) (before others : List Line)
    (rest more : List ℕ) → IsSmall atoms → AreOneLine names
    → AllByRecursion (IsLine atoms names) before → AllByRecursion (IsLine atoms names) others
    → ((line : Line) (after : List ℕ) → IsLine atoms names line
    → rest ≢ text_of_line names line ++ after)
    → ((line : Line) (after : List ℕ) → IsLine atoms names line
    → more ≢ text_of_line names line ++ after)
    → text_of_lines names before ++ rest ≡ text_of_lines names others ++ more
    → length before ≡ length others
one_wrong atoms names [] [] rest more few one_line each also wrong also_wrong same = refl
one_wrong atoms names [] (line ∷ others) rest more few one_line each also wrong also_wrong same =
    absurd
    (wrong line (text_of_lines names others ++ more) also.0
    (same ∙ append_assoc (text_of_line names line) (text_of_lines names others) more))
one_wrong atoms names (line ∷ before) [] rest more few one_line each also wrong also_wrong same =
    absurd
    (also_wrong line (text_of_lines names before ++ rest) each.0
    (sym same ∙ append_assoc (text_of_line names line) (text_of_lines names before) rest))
one_wrong atoms names (line ∷ before) (other ∷ others) rest more few one_line each also wrong
    also_wrong same =
    let first =
    same_first atoms names line other (text_of_lines names before ++ rest)
    (text_of_lines names others ++ more) few one_line each.0 also.0
    (sym (append_assoc (text_of_line names line) (text_of_lines names before) rest) ∙ same
    ∙ append_assoc (text_of_line names other) (text_of_lines names others) more) in
    let less =
    one_wrong atoms names before others rest more few one_line each.1 also.1 wrong also_wrong
    (ap (λ (p : Line × List ℕ). p.1) first) in
    omega (arith, less)

-- ---- what was read is all that can be

module _ {A : Type 0} (view : A → List Line) (atoms : ℕ) (names : List Named) (text : List ℕ)
    (few : IsSmall atoms) (one_line : AreOneLine names) where
  pub all_read : (result : Result A ReportError)
      → IfOk result (λ found. IsTextOf atoms names text (view found))
      → IfErr result (IsWhy atoms names text) → (lines : List Line)
      → IsTextOf atoms names text lines → AreLinesUnlessNoMemory view result lines
  all_read (Ok found) read why lines is =
      text_tells atoms names (view found) lines few one_line read.each is.each
      (sym read.same ∙ is.same)
  all_read (Err (NotALine told)) read why lines is =
      no_wrong atoms names why.before lines why.rest few one_line why.each is.each why.some
      why.wrong (sym why.parts ∙ is.same)
  all_read (Err errors.NoMemory) read why lines is = tt

  pub all_refused : (result : Result A ReportError)
      → IfOk result (λ found. IsTextOf atoms names text (view found))
      → IfErr result (IsWhy atoms names text) → (number : ℕ)
      → IsFirstWrong atoms names text number → IsNumberUnlessNoMemory result number
  all_refused (Ok found) read why number wrong =
      no_wrong atoms names wrong.before (view found) wrong.rest few one_line wrong.each read.each
      wrong.some wrong.wrong (sym wrong.parts ∙ read.same)
  all_refused (Err (NotALine told)) read why number wrong =
      let same =
      one_wrong atoms names why.before wrong.before why.rest wrong.rest few one_line why.each
      wrong.each why.wrong wrong.wrong (sym why.parts ∙ wrong.parts) in
      sym why.count ∙ ap (λ (n : ℕ). n + 1) same ∙ wrong.count
  all_refused (Err errors.NoMemory) read why number wrong = tt
