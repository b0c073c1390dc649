-- Which lists of lines are legal reports on a program: each line is true and says something new,
-- judged by the lines before it, and a verdict says how far the run came.
use Rattle.std.specs.Prelude.{◌≡◌, ◌≢◌, ◌≤◌, ◌+◌, ◌-◌, ◌↔◌, ◌⊎◌, ℕ, Bool, true, false, List, []}
use Rattle.std.specs.Prelude.{◌∷◌, ◌++◌, Option, Some, None, length, take, map, count_by, All, Any}
use Rattle.std.specs.Prelude.{Contains, slice_get, IfSome, ◌==◌, if◌then◌else◌}
use Rattle.std.specs.List.{filter_map}
use Rattle.std.specs.List.Sorted.{IsStrictlyIncreasing}
use Rattle.ground_program.specs.declared.program.Mode.{Mode}
use Rattle.ground_program.specs.declared.program.Mode.TheVariants.{Cautious, Brave}
use Rattle.ground_program.specs.declared.program.Named.{Named}
use Rattle.ground_program.specs.declared.program.Program.{Program}
use Rattle.ground_program.specs.Meaning.{IsAnswerSet}
use Rattle.ground_program.specs.Bounds.{IsCandidate, IsConsequence, Shows, HasCandidate}
use Rattle.report.specs.declared.lines.Line.{Line}
use Rattle.report.specs.declared.lines.Line.TheVariants.{Answer, SettledIn, SettledOut, Sizes}
use Rattle.report.specs.declared.lines.Line.TheVariants.{Watch, Unsettled, Unknown, Complete}
use Rattle.report.specs.declared.lines.Line.TheVariants.{Partial, Incoherent, NoMemory}

-- a line gives an answer set
abbrev pub is_answer : Line → Bool
is_answer (Answer number set) = true
is_answer _ = false

-- a line says that a candidate is a consequence
abbrev pub is_in : Line → Bool
is_in (SettledIn cand by) = true
is_in _ = false

-- a line says that a candidate isn't a consequence
abbrev pub is_out : Line → Bool
is_out (SettledOut cand by) = true
is_out _ = false

-- a line settles this candidate
abbrev pub Settles : ℕ → Line → Type 0
Settles cand (SettledIn named by) = named ≡ cand
Settles cand (SettledOut named by) = named ≡ cand
Settles cand _ = ⊥

-- a candidate is settled once an IN or OUT line names it
abbrev pub IsSettled : List Line → ℕ → Type 0
IsSettled before cand = Any (Settles cand) before

-- a candidate that no line settles
pub record IsOpen (names : List Named) (before : List Line) (cand : ℕ) : Type 0 where
  pub candidate : IsCandidate names cand
  pub unsettled : ¬ IsSettled before cand

-- a line gives the answer set with this number, and the set shows the candidate
abbrev pub GivesShown : List Named → Mode → ℕ → ℕ → Line → Type 0
GivesShown names mode cand by (Answer number set) = (number ≡ by) × Shows names mode set cand
GivesShown names mode cand by _ = ⊥

-- the answer set with this number was given before, and shows the candidate
abbrev pub IsShownBy : List Named → Mode → List Line → ℕ → ℕ → Type 0
IsShownBy names mode before cand by = Any (GivesShown names mode cand by) before

-- an IN line names an answer set that shows it in brave mode, and 0 in cautious mode
abbrev pub InNames : List Named → Mode → List Line → ℕ → ℕ → Type 0
InNames names Cautious before cand by = by ≡ 0
InNames names Brave before cand by = IsShownBy names Brave before cand by

-- an OUT line names an answer set that shows it in cautious mode, and 0 in brave mode
abbrev pub OutNames : List Named → Mode → List Line → ℕ → ℕ → Type 0
OutNames names Cautious before cand by = IsShownBy names Cautious before cand by
OutNames names Brave before cand by = by ≡ 0

-- the sizes of a lower and an upper bound
pub record Extent : Type 0 where
  pub lower : ℕ
  pub upper : ℕ

-- the sizes of one pair of bounds don't leave those of another
pub record IsInside (narrow wide : Extent) : Type 0 where
  pub lower : wide.lower ≤ narrow.lower
  pub upper : narrow.upper ≤ wide.upper

-- the sizes that a PAIR line has
abbrev pub sizes_in : Line → Option Extent
sizes_in (Sizes lower upper) = Some (record { lower = lower; upper = upper })
sizes_in _ = None

-- the sizes of all PAIR lines, in order
abbrev pub all_sizes : List Line → List Extent
all_sizes lines = filter_map sizes_in lines

-- the sizes that a WATCH line of this watcher has
abbrev pub sizes_seen : ℕ → Line → Option Extent
sizes_seen watcher (Watch named lower upper) =
    if named == watcher then Some (record { lower = lower; upper = upper }) else None
sizes_seen watcher _ = None

-- the sizes of all WATCH lines of a watcher, in order
abbrev pub all_seen : ℕ → List Line → List Extent
all_seen watcher lines = filter_map (sizes_seen watcher) lines

-- the last of some sizes
abbrev pub last_of : List Extent → Option Extent
last_of sizes = slice_get sizes (length sizes - 1)

-- some sizes without the last
abbrev pub all_but_last : List Extent → List Extent
all_but_last sizes = take (length sizes - 1) sizes

-- a list of truth values tells exactly which candidates are consequences
pub record IsTruthOf (program : Program) (mode : Mode) (truth : List Bool) : Type 0 where
  pub candidates : length truth ≡ length program.names
  pub each : (cand : ℕ) → IsCandidate program.names cand →
      (HasCandidate truth cand ↔ IsConsequence program mode cand)

-- how many of some truth values are true
abbrev pub count_true : List Bool → ℕ
count_true truth = count_by (λ value. value) truth

-- a watcher's number, from 1
pub record IsWatcher (watch watcher : ℕ) : Type 0 where
  pub first : 1 ≤ watcher
  pub last : watcher ≤ watch

-- an answer set in a line shows a candidate that no line settles
pub record ShowsOpen (names : List Named) (mode : Mode) (before : List Line) (set : List Bool) :
    Type 0 where
  pub cand : ℕ
  pub unsettled : IsOpen names before cand
  pub shown : Shows names mode set cand

-- ANSWER: the numbers count up from 1, the set is an answer set, and it is the first or shows an
-- open candidate
pub record IsLegalAnswer (program : Program) (mode : Mode) (before : List Line) (number : ℕ)
    (set : List Bool) : Type 0 where
  pub counted : number ≡ count_by is_answer before + 1
  pub answer_set : IsAnswerSet program set
  pub news : (count_by is_answer before ≡ 0) ⊎ ShowsOpen program.names mode before set

-- IN: the candidate is open and a consequence
pub record IsLegalIn (program : Program) (mode : Mode) (before : List Line) (cand by : ℕ) :
    Type 0 where
  pub unsettled : IsOpen program.names before cand
  pub consequence : IsConsequence program mode cand
  pub named : InNames program.names mode before cand by

-- OUT: the candidate is open and no consequence
pub record IsLegalOut (program : Program) (mode : Mode) (before : List Line) (cand by : ℕ) :
    Type 0 where
  pub unsettled : IsOpen program.names before cand
  pub no_consequence : ¬ IsConsequence program mode cand
  pub named : OutNames program.names mode before cand by

-- PAIR: the sizes are those that the lines so far make, each candidate that a set shows is settled,
-- and the PAIR line before had other sizes
pub record IsLegalSizes (program : Program) (mode : Mode) (before : List Line) (sizes : Extent) :
    Type 0 where
  pub lower : sizes.lower ≡ count_by is_in before
  pub upper : sizes.upper ≡ length program.names - count_by is_out before
  pub shown : (cand by : ℕ) → IsCandidate program.names cand →
      IsShownBy program.names mode before cand by → IsSettled before cand
  pub news : last_of (all_sizes before) ≢ Some sizes

-- WATCH: the number of consequences lies between the sizes. They don't leave those that this
-- watcher told before, nor those of a PAIR line but the last, and the watcher's last line had other
-- sizes
pub record IsLegalWatch (program : Program) (mode : Mode) (watch : ℕ) (before : List Line)
    (watcher : ℕ) (sizes : Extent) : Type 0 where
  pub known : IsWatcher watch watcher
  pub lower : (truth : List Bool) → IsTruthOf program mode truth → sizes.lower ≤ count_true truth
  pub upper : (truth : List Bool) → IsTruthOf program mode truth → count_true truth ≤ sizes.upper
  pub own : All (IsInside sizes) (all_seen watcher before)
  pub printed : All (IsInside sizes) (all_but_last (all_sizes before))
  pub news : last_of (all_seen watcher before) ≢ Some sizes

-- a line may stand behind these lines; those that aren't named here stand only at the end, or in no
-- report
abbrev pub IsLegalLine : Program → Mode → ℕ → List Line → Line → Type 0
IsLegalLine program mode watch before (Answer number set) =
    IsLegalAnswer program mode before number set
IsLegalLine program mode watch before (SettledIn cand by) = IsLegalIn program mode before cand by
IsLegalLine program mode watch before (SettledOut cand by) = IsLegalOut program mode before cand by
IsLegalLine program mode watch before (Sizes lower upper) =
    IsLegalSizes program mode before (record { lower = lower; upper = upper })
IsLegalLine program mode watch before (Watch watcher lower upper) =
    IsLegalWatch program mode watch before watcher (record { lower = lower; upper = upper })
IsLegalLine program mode watch before _ = ⊥

-- lines that may begin a report: each may stand behind those before it
pub record IsLegalSoFar (program : Program) (mode : Mode) (watch : ℕ) (lines : List Line) :
    Type 0 where
  pub each : (before after : List Line) (line : Line) → lines ≡ before ++ line ∷ after →
      IsLegalLine program mode watch before line

-- a PAIR line stands there, and no candidate is settled after the last of them
pub record EndsSized (lines : List Line) : Type 0 where
  pub before : List Line
  pub after : List Line
  pub sizes : Extent
  pub parts : lines ≡ before ++ Sizes sizes.lower sizes.upper ∷ after
  pub settled_in : count_by is_in after ≡ 0
  pub settled_out : count_by is_out after ≡ 0

-- each watcher has a WATCH line
abbrev pub EachWatched : ℕ → List Line → Type 0
EachWatched watch lines =
    (watcher : ℕ) → IsWatcher watch watcher → 1 ≤ length (all_seen watcher lines)

-- the last sizes that each watcher told don't leave those of any PAIR line but the last
abbrev pub KeepsInside : ℕ → List Line → Type 0
KeepsInside watch lines = (watcher : ℕ) → IsWatcher watch watcher →
    IfSome (last_of (all_seen watcher lines))
    (λ sizes. All (IsInside sizes) (all_but_last (all_sizes lines)))

-- COMPLETE: an answer set was given and every candidate is settled
pub record IsComplete (program : Program) (watch : ℕ) (body : List Line) : Type 0 where
  pub answered : 1 ≤ count_by is_answer body
  pub settled : (cand : ℕ) → IsCandidate program.names cand → IsSettled body cand
  pub sized : EndsSized body
  pub watched : EachWatched watch body

-- the one UNKNOWN line: no answer set was given, and the test for one spent the budget
pub record IsUnknown (budget : ℕ) (body tests : List Line) : Type 0 where
  pub unanswered : count_by is_answer body ≡ 0
  pub test : tests ≡ Unknown budget ∷ []

-- one OPEN line for each open candidate, ascending and at least one: an answer set was given, and
-- the candidate's own test spent the budget
pub record IsEachOpen (program : Program) (budget : ℕ) (body tests : List Line) : Type 0 where
  pub answered : 1 ≤ count_by is_answer body
  pub cands : List ℕ
  pub lines : tests ≡ map (λ cand. Unsettled cand budget) cands
  pub each : (cand : ℕ) → Contains cands cand ↔ IsOpen program.names body cand
  pub ascending : IsStrictlyIncreasing cands
  pub some : 1 ≤ length cands

-- PARTIAL: each test that is left was spent
pub record IsPartial (program : Program) (watch budget : ℕ) (body tests : List Line) : Type 0 where
  pub spent : IsUnknown budget body tests ⊎ IsEachOpen program budget body tests
  pub sized : EndsSized body
  pub watched : EachWatched watch body

-- INCOHERENT: there is no answer set
pub record IsIncoherent (program : Program) (watch : ℕ) (body : List Line) : Type 0 where
  pub none : (set : List Bool) → ¬ IsAnswerSet program set
  pub watched : EachWatched watch body

-- a verdict behind the lines of a run and those of its spent tests, which PARTIAL alone has
abbrev pub IsLegalVerdict : Program → ℕ → ℕ → List Line → List Line → Line → Type 0
IsLegalVerdict program watch budget body tests Complete =
    IsComplete program watch body × (tests ≡ [])
IsLegalVerdict program watch budget body tests Partial = IsPartial program watch budget body tests
IsLegalVerdict program watch budget body tests Incoherent =
    IsIncoherent program watch body × (tests ≡ [])
IsLegalVerdict program watch budget body tests NoMemory = tests ≡ []
IsLegalVerdict program watch budget body tests _ = ⊥

-- a legal report of a run with so many watchers and so large a budget: lines that may begin one,
-- the lines of spent tests, and a verdict
pub record IsLegalReport (program : Program) (mode : Mode) (watch budget : ℕ) (lines : List Line) :
    Type 0 where
  pub body : List Line
  pub tests : List Line
  pub verdict : Line
  pub parts : lines ≡ body ++ (tests ++ verdict ∷ [])
  pub so_far : IsLegalSoFar program mode watch body
  pub inside : KeepsInside watch body
  pub ended : IsLegalVerdict program watch budget body tests verdict
