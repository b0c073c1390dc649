-- What a run may write for its words and its input, and the status with which it ends.
use Rattle.std.specs.Prelude.{◌≡◌, ◌≤◌, ◌<◌, ◌⊎◌, ℕ, List, [], Option}
use Rattle.std.specs.Prelude.{length, take, IfSome}
use Rattle.byte_edges.specs.Faults.{Rose}
use Rattle.byte_edges.specs.Edges.{Appended}
use Rattle.ground_program.specs.declared.program.Program.{Program}
use Rattle.lparse_reader.specs.Pieces.{Reads}
use Rattle.lparse_reader.specs.Refuses.{Refuses}
use Rattle.lparse_reader.specs.declared.fault.TextFault.{TextFault}
use Rattle.lparse_reader.specs.declared.fault.TextFault.TheVariants as faults
use Rattle.lparse_reader.specs.declared.fault.ReadError.{ReadError}
use Rattle.lparse_reader.specs.declared.fault.ReadError.TheVariants as errors
use Rattle.normal_program.specs.declared.spent.SpentTest.{SpentTest}
use Rattle.normal_program.specs.Limit.{HasVariables}
use Rattle.report.specs.declared.lines.Line.TheVariants as lines
use Rattle.report.specs.declared.lines.Why.{Why}
use Rattle.report.specs.declared.lines.Why.TheVariants as whys
use Rattle.report.specs.Text.{text_of_line}
use Rattle.rule_normaliser.specs.declared.error.NormalError.{NormalError}
use Rattle.rule_normaliser.specs.declared.error.NormalError.TheVariants as sizes
use Rattle.run_words.specs.declared.task.Settings.{Settings}
use Rattle.run_words.specs.declared.task.Task.{Task}
use Rattle.run_words.specs.declared.task.Task.TheVariants.{Query}
use Rattle.run_words.specs.Words.{Orders}
use Rattle.query_run.specs.Answers.{Answers}
use Rattle.query_run.specs.Budget.{IsDecidedBy}

-- an input isn't too long
abbrev pub IsShort : List ℕ → Type 0
IsShort input = length input ≤ 67108864

-- the text of a refusal
abbrev pub refusal : ℕ → Why → ℕ → List ℕ
refusal line why value = text_of_line [] (lines.Refused line why value)

-- the word for a fault of a text
abbrev pub why_of : TextFault → Why
why_of faults.NotANumber = whys.NotANumber
why_of faults.UnknownKind = whys.UnknownKind
why_of faults.MinimizeRule = whys.MinimizeRule
why_of faults.AtomZero = whys.AtomZero
why_of faults.NumberTooLarge = whys.NumberTooLarge
why_of faults.NegativeCount = whys.NegativeCount
why_of faults.MissingMark = whys.MissingMark
why_of faults.ExternalSection = whys.ExternalSection
why_of faults.NameMissing = whys.NameMissing
why_of faults.EndOfInput = whys.EndOfInput
why_of faults.TrailingText = whys.TrailingText

-- the status and the text for an input that gives no program
abbrev pub refusal_status : ReadError → ℕ
refusal_status (errors.Text why line value) = 3
refusal_status errors.TooLong = 3
refusal_status errors.ReadFault = 5
refusal_status errors.NoMemory = 7

abbrev pub refusal_text : ReadError → List ℕ
refusal_text (errors.Text why line value) = refusal line (why_of why) value
refusal_text errors.TooLong = refusal 0 whys.TooLong 67108864
refusal_text errors.ReadFault = refusal 0 whys.ReadFault 0
refusal_text errors.NoMemory = text_of_line [] lines.NoMemory

-- they are those for this error, and there is no spent test
abbrev pub IsRefusalOf : ReadError → ℕ → List SpentTest → List ℕ → Type 0
IsRefusalOf error status spent text =
    (status ≡ refusal_status error) × (spent ≡ []) × (text ≡ refusal_text error)

-- the status and the text where there is no normal form, and no spent test
abbrev pub IsSizeRefusalOf : NormalError → ℕ → List SpentTest → List ℕ → Type 0
IsSizeRefusalOf (sizes.TooManyVariables count) status spent text =
    (status ≡ 3) × (spent ≡ []) × (text ≡ refusal 0 whys.TooManyVariables count)
IsSizeRefusalOf sizes.NoMemory status spent text =
    (status ≡ 7) × (spent ≡ []) × (text ≡ text_of_line [] lines.NoMemory)

-- what is written for a program
pub data HasAnswered (program : Program) (settings : Settings) :
    ℕ → List SpentTest → List ℕ → Type 0 where
  report : {status : ℕ} {spent : List SpentTest} {text : List ℕ}
      → Answers program settings status spent text
      → HasAnswered program settings status spent text
  too_large : {count : ℕ} → HasVariables program count → 1048575 < count
      → HasAnswered program settings 3 [] (refusal 0 whys.TooManyVariables count)
  none_left : HasAnswered program settings 7 [] (text_of_line [] lines.NoMemory)

-- what is written by these settings for an input, with the status and the spent tests. The two
-- counts are those of the source's faults before and after the run
pub data QueryRow (settings : Settings) (input : List ℕ) (before now : ℕ) :
    ℕ → List SpentTest → List ℕ → Type 0 where
  answered : {status : ℕ} {spent : List SpentTest} {text : List ℕ} (program : Program)
      → IsShort input → Reads input program → HasAnswered program settings status spent text
      → QueryRow settings input before now status spent text
  refused : {why : TextFault} {line value : ℕ} → IsShort input → Refuses input why line value
      → QueryRow settings input before now 3 [] (refusal line (why_of why) value)
  too_long : 67108864 < length input
      → QueryRow settings input before now 3 [] (refusal 0 whys.TooLong 67108864)
  read_fault : Rose before now
      → QueryRow settings input before now 5 [] (refusal 0 whys.ReadFault 0)
  no_memory : QueryRow settings input before now 7 [] (text_of_line [] lines.NoMemory)

-- the words are of no task
abbrev pub AreOther : List (List ℕ) → Type 0
AreOther words = (task : Task) → ¬ Orders words task

-- what is written for words and input
pub data Row (words : List (List ℕ)) (input : List ℕ) (before now : ℕ) :
    ℕ → List SpentTest → List ℕ → Type 0 where
  query : {status : ℕ} {spent : List SpentTest} {text : List ℕ} (settings : Settings)
      → Orders words (Query settings) → QueryRow settings input before now status spent text
      → Row words input before now status spent text
  other_words : AreOther words → Row words input before now 4 [] (refusal 0 whys.Words 0)

-- a row of a table, for some input, which is the one that the source told where it told one
pub record IsAllowed (Table : List ℕ → ℕ → List SpentTest → List ℕ → Type 0)
    (told : Option (List ℕ)) (status : ℕ) (spent : List SpentTest) (text : List ℕ) : Type 0 where
  pub input : List ℕ
  pub same : IfSome told (λ left. input ≡ left)
  pub row : Table input status spent text

-- the writing was cut off: the sink failed, and a first part of what is allowed was written
pub record IsCutOff (Allowed : ℕ → List SpentTest → List ℕ → Type 0) (before now : ℕ)
    (text : List ℕ) : Type 0 where
  pub rose : Rose before now
  pub status : ℕ
  pub spent : List SpentTest
  pub whole : List ℕ
  pub allowed : Allowed status spent whole
  pub count : ℕ
  pub part : text ≡ take count whole

-- a run: what was written, where the sink tells it, is allowed with the status and the spent tests,
-- or it was cut off, with no test
pub record Ran {K : Type 0} (written : K → Option (List ℕ)) (faults : K → ℕ)
    (Allowed : ℕ → List SpentTest → List ℕ → Type 0) (old new : K) (status : ℕ)
    (spent : List SpentTest) : Type 0 where
  pub text : List ℕ
  pub appended : Appended (written old) (written new) text
  pub ends :
      Allowed status spent text
      ⊎ ((status ≡ 6) × (spent ≡ []) × IsCutOff Allowed (faults old) (faults new) text)

-- an input is accepted: it reads as a program with few enough variables
pub record IsAccepted (input : List ℕ) : Type 0 where
  pub short : IsShort input
  pub program : Program
  pub reads : Reads input program
  pub few : (count : ℕ) → HasVariables program count → count ≤ 1048575

-- complete, partial or incoherent, or memory ran out
abbrev pub IsAnswer : ℕ → Type 0
IsAnswer status = (status ≡ 0) ⊎ ((status ≡ 1) ⊎ ((status ≡ 2) ⊎ (status ≡ 7)))

-- an accepted input gets an answer, where neither count of faults rose
abbrev pub IsAnsweredBy : ℕ → ℕ → ℕ → ℕ → ℕ → List ℕ → Type 0
IsAnsweredBy status read_before read_now write_before write_now input =
    IsAccepted input
    → IsAnswer status ⊎ (Rose read_before read_now ⊎ Rose write_before write_now)

-- and one that decides its program where the budget is ample for it
abbrev pub IsDecidedAs : ℕ → ℕ → ℕ → ℕ → ℕ → ℕ → List ℕ → Type 0
IsDecidedAs budget status read_before read_now write_before write_now input =
    (accepted : IsAccepted input)
    → IsDecidedBy accepted.program budget status
    ⊎ (Rose read_before read_now ⊎ Rose write_before write_now)
