-- What is written for a program, with the status and the spent tests that are handed out.
use Rattle.std.specs.Prelude.{◌≡◌, ◌++◌, ◌∷◌, ℕ, Bool, true, false, List, [], Option, Result}
use Rattle.std.specs.Prelude.{filter, AllPairs, IfOk}
use Rattle.std.specs.List.{AllZip}
use Rattle.byte_edges.specs.Edges.{Writes}
use Rattle.ground_program.specs.declared.program.Program.{Program}
use Rattle.normal_program.specs.declared.normal.Normal.{Normal}
use Rattle.normal_program.specs.declared.spent.SpentTest.{SpentTest}
use Rattle.normal_program.specs.Normal.{IsNormalFormOf}
use Rattle.normal_program.specs.Spent.{AreApart}
use Rattle.report.specs.declared.lines.Line.{Line}
use Rattle.report.specs.declared.lines.Line.TheVariants as lines
use Rattle.report.specs.Legal.{IsLegalReport}
use Rattle.report.specs.Text.{text_of_lines}
use Rattle.run_words.specs.declared.task.Settings.{Settings}
use Rattle.master_record.specs.Sound.{IsOwn, IsSpentByOne}
use Rattle.query_run.specs.declared.answering.Ended.{Ended}

-- the text of a report that ends with this line and is legal for the program
pub record IsReport (program : Program) (settings : Settings) (last : Line) (text : List ℕ) :
    Type 0 where
  pub before : List Line
  pub legal :
      IsLegalReport program settings.mode settings.watch settings.budget (before ++ last ∷ [])
  pub whole : text ≡ text_of_lines program.names (before ++ last ∷ [])

-- a line names a spent test
abbrev pub names_test : Line → Bool
names_test (lines.Unsettled cand units) = true
names_test (lines.Unknown units) = true
names_test _ = false

-- the test that a line names: the own test of its candidate, or that of coherence
abbrev pub IsNamedBy : Normal → Settings → Line → SpentTest → Type 0
IsNamedBy normal settings (lines.Unsettled cand units) test =
    IsOwn normal settings.mode settings.budget settings.workers
    (record { cand = cand; test = test })
IsNamedBy normal settings (lines.Unknown units) test =
    IsSpentByOne normal settings.budget settings.workers test
IsNamedBy normal settings _ test = ⊥

-- the text of a legal report that ends with PARTIAL, and the tests that its lines name, in order.
-- Any two of one worker are apart
pub record IsPartialReport (program : Program) (settings : Settings) (spent : List SpentTest)
    (text : List ℕ) : Type 0 where
  pub before : List Line
  pub legal :
      IsLegalReport program settings.mode settings.watch settings.budget
      (before ++ lines.Partial ∷ [])
  pub whole : text ≡ text_of_lines program.names (before ++ lines.Partial ∷ [])
  pub normal : Normal
  pub form : IsNormalFormOf normal program
  pub each : AllZip (IsNamedBy normal settings) (filter names_test before) spent
  pub apart :
      AllPairs (λ earlier later. earlier.by ≡ later.by → AreApart normal earlier later) spent

-- what is written for a program, with the status and the spent tests
pub data Answers (program : Program) (settings : Settings) :
    ℕ → List SpentTest → List ℕ → Type 0 where
  complete : {text : List ℕ} → IsReport program settings lines.Complete text
      → Answers program settings 0 [] text
  partial : {spent : List SpentTest} {text : List ℕ}
      → IsPartialReport program settings spent text
      → Answers program settings 1 spent text
  incoherent : {text : List ℕ} → IsReport program settings lines.Incoherent text
      → Answers program settings 2 [] text
  no_memory : {text : List ℕ} → IsReport program settings lines.NoMemory text
      → Answers program settings 7 [] text

-- a text that fits its status and its tests was written, or a prefix of it where the sink failed
pub record Ends {K E : Type 0} (written : K → Option (List ℕ)) (faults : K → ℕ) (old new : K)
    (Fits : ℕ → List SpentTest → List ℕ → Type 0) (result : Result Ended E) : Type 0 where
  pub status : ℕ
  pub spent : List SpentTest
  pub text : List ℕ
  pub fits : Fits status spent text
  pub writes : Writes written faults old new text result
  pub given : IfOk result (λ told. told ≡ record { status = status; spent = spent })
