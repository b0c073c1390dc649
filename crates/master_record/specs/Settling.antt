-- Which answer sets are given, and which lines settle candidates.
use Rattle.std.specs.Prelude.{◌≡◌, ◌<◌, ◌+◌, ◌⊎◌, ℕ, Bool, List, [], ◌∷◌, ◌++◌, All, Any, AllPairs}
use Rattle.std.specs.Prelude.{Contains}
use Rattle.ground_program.specs.declared.pair.Pair.{Pair}
use Rattle.ground_program.specs.declared.program.Named.{Named}
use Rattle.ground_program.specs.declared.program.Mode.{Mode}
use Rattle.ground_program.specs.declared.program.Mode.TheVariants.{Cautious, Brave}
use Rattle.ground_program.specs.Bounds.{Shows}
use Rattle.report.specs.declared.lines.Line.{Line}
use Rattle.report.specs.declared.lines.Line.TheVariants.{Answer, SettledIn, SettledOut}
use Rattle.report.specs.Legal.{IsShownBy}
use Rattle.master_record.specs.Course.{IsOpenIn}

-- an answer set shows a candidate that the pair leaves open
pub record ShowsOpenIn (names : List Named) (mode : Mode) (pair : Pair) (set : List Bool) : Type 0
  where
    pub cand : ℕ
    pub unsettled : IsOpenIn names pair cand
    pub shown : Shows names mode set cand

-- an answer set is given where it is the first, or shows an open candidate
abbrev pub IsNews : List Named → Mode → Pair → ℕ → List Bool → Type 0
IsNews names mode pair count set = (count ≡ 0) ⊎ ShowsOpenIn names mode pair set

-- the lines of answer sets, after so many: one for each that is news, in order, numbered on
abbrev pub AreAnswers :
    List Named → Mode → Pair → ℕ → List (List Bool) → List Line → Type 0
AreAnswers names mode pair count [] lines = lines ≡ []
AreAnswers names mode pair count (set ∷ sets) lines =
    (IsNews names mode pair count set
    × ((rest : List Line)
    × (lines ≡ Answer (count + 1) set ∷ rest)
    × AreAnswers names mode pair (count + 1) sets rest))
    ⊎ ((¬ IsNews names mode pair count set) × AreAnswers names mode pair count sets lines)

-- the line of a candidate that the answer set with a number shows
abbrev pub shown_line : Mode → ℕ → ℕ → Line
shown_line Cautious cand by = SettledOut cand by
shown_line Brave cand by = SettledIn cand by

-- the line of a candidate that was proved
abbrev pub proved_line : Mode → ℕ → Line
proved_line Cautious cand = SettledIn cand 0
proved_line Brave cand = SettledOut cand 0

-- the candidate that a line settles
abbrev pub cand_of : Line → ℕ
cand_of (SettledIn cand by) = cand
cand_of (SettledOut cand by) = cand
cand_of _ = 0

-- the first of these answer sets that shows the candidate has this number
pub record IsFirstShown (names : List Named) (mode : Mode) (answers : List Line) (cand by : ℕ) :
    Type 0 where
  pub before : List Line
  pub after : List Line
  pub set : List Bool
  pub parts : answers ≡ before ++ Answer by set ∷ after
  pub shown : Shows names mode set cand
  pub first : (other : ℕ) → ¬ IsShownBy names mode before cand other

-- a line says that the first of these answer sets shows it that does
pub record IsShownLine (names : List Named) (mode : Mode) (answers : List Line) (cand : ℕ)
    (line : Line) : Type 0 where
  pub by : ℕ
  pub shown : IsFirstShown names mode answers cand by
  pub line_is : line ≡ shown_line mode cand by

-- a line says that the candidate was proved
pub record IsProvedLine (mode : Mode) (proved : List ℕ) (cand : ℕ) (line : Line) : Type 0 where
  pub has : Contains proved cand
  pub line_is : line ≡ proved_line mode cand

-- one of these answer sets shows a candidate
abbrev pub IsShownIn : List Named → Mode → List Line → ℕ → Type 0
IsShownIn names mode answers cand = (by : ℕ) × IsShownBy names mode answers cand by

-- a line tells of a candidate that it is shown or was proved
pub record IsTold (names : List Named) (mode : Mode) (answers : List Line) (proved : List ℕ)
    (cand : ℕ) (line : Line) : Type 0 where
  pub about : cand_of line ≡ cand
  pub told : IsShownLine names mode answers cand line ⊎ IsProvedLine mode proved cand line

-- the line of an open candidate that is shown or proved
pub record IsGainedLine (names : List Named) (mode : Mode) (pair : Pair) (answers : List Line)
    (proved : List ℕ) (line : Line) : Type 0 where
  pub unsettled : IsOpenIn names pair (cand_of line)
  pub told : IsShownLine names mode answers (cand_of line) line
      ⊎ IsProvedLine mode proved (cand_of line) line

-- a candidate is open, and shown or proved
pub record IsDue (names : List Named) (mode : Mode) (pair : Pair) (answers : List Line)
    (proved : List ℕ) (cand : ℕ) : Type 0 where
  pub unsettled : IsOpenIn names pair cand
  pub gained : IsShownIn names mode answers cand ⊎ Contains proved cand

-- a candidate is open, and a line tells of it that it is shown or was proved
pub record IsDueLine (names : List Named) (mode : Mode) (pair : Pair) (answers : List Line)
    (proved : List ℕ) (cand : ℕ) (line : Line) : Type 0 where
  pub unsettled : IsOpenIn names pair cand
  pub told : IsTold names mode answers proved cand line

-- one line for each of these candidates that is due, ascending
pub record AreSettledAmong (names : List Named) (mode : Mode) (pair : Pair) (answers : List Line)
    (proved looked : List ℕ) (lines : List Line) : Type 0 where
  pub ascending : AllPairs (λ earlier later. cand_of earlier < cand_of later) lines
  pub each : All (IsGainedLine names mode pair answers proved) lines
  pub all : (cand : ℕ) → Contains looked cand → IsDue names mode pair answers proved cand
      → Any (λ line. cand_of line ≡ cand) lines

-- one line for each candidate that is due, ascending
pub record AreSettled (names : List Named) (mode : Mode) (pair : Pair) (answers : List Line)
    (proved : List ℕ) (lines : List Line) : Type 0 where
  pub ascending : AllPairs (λ earlier later. cand_of earlier < cand_of later) lines
  pub each : All (IsGainedLine names mode pair answers proved) lines
  pub all : (cand : ℕ) → IsDue names mode pair answers proved cand
      → Any (λ line. cand_of line ≡ cand) lines
