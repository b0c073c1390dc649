-- Laws about the lines of a run. Each is a clause of a function in src/laws.rt.
use Rattle.std.specs.Prelude.{◌≡◌, ◌≢◌, ◌≤◌, ◌<◌, ◌+◌, ◌-◌, ◌^◌, ℕ, Bool, true, false, List, []}
use Rattle.std.specs.Prelude.{◌∷◌}
use Rattle.std.specs.Prelude.{◌++◌, length, All, AllPairs, fold, count_by, replicate, slice_set}
use Rattle.std.specs.Prelude.{slice_index_or, IsPermutation, Vec, vec_len, vec_capacity}
use Rattle.std.specs.declared.alloc.Global.{Global}
use Rattle.std.specs.List.Sorted.{IsNonDecreasingBy}
use Rattle.ground_program.specs.declared.pair.Pair.{Pair}
use Rattle.ground_program.specs.declared.program.Mode.{Mode}
use Rattle.ground_program.specs.declared.program.Named.{Named}
use Rattle.ground_program.specs.declared.program.Program.{Program}
use Rattle.normal_program.specs.declared.normal.Normal.{Normal}
use Rattle.normal_program.specs.declared.spent.SpentTest.{SpentTest}
use Rattle.normal_program.specs.Limit.{IsNormal}
use Rattle.normal_program.specs.Normal.{IsNormalFormOf}
use Rattle.normal_program.specs.Spent.{AreApart}
use Rattle.anytime_core.specs.Truth.{EnclosesN, IsCoherent}
use Rattle.report.specs.declared.lines.Line.{Line}
use Rattle.report.specs.declared.lines.Line.TheVariants.{Answer, Sizes, Complete, Partial}
use Rattle.report.specs.declared.lines.Line.TheVariants.{Incoherent}
use Rattle.report.specs.declared.lines.Line.TheVariants.{Unknown}
use Rattle.report.specs.Legal.{Extent, IsLegalReport, KeepsInside, EachWatched, EndsSized}
use Rattle.report.specs.Legal.{all_sizes, is_in, is_out}
use Rattle.worker_jobs.specs.declared.job.Job.{Job}
use Rattle.worker_jobs.specs.declared.job.Strategy.{Strategy}
use Rattle.worker_jobs.specs.declared.gain.Gain.{Gain}
use Rattle.worker_jobs.specs.Gain.{IsTrueGain}
use Rattle.worker_jobs.specs.Job.{IsJobOver}
use Rattle.master_record.specs.declared.own.OwnTest.{OwnTest}
use Rattle.master_record.specs.declared.worker.Worker.{Worker}
use Rattle.master_record.specs.Course.{Course, course_after, with_lines, is_left_at, IsLineOver}
use Rattle.master_record.specs.Books.{Books, opened, open_own, IsStrategy}
use Rattle.master_record.specs.Settling.{AreAnswers, IsNews}
use Rattle.master_record.specs.Merging.{HasMerged, HasTaken, IsTrueLine, settled_by, new_own}
use Rattle.master_record.specs.Jobs.{HasGiven}
use Rattle.master_record.specs.Verdicts.{IsFinished}
use Rattle.master_record.specs.Sound.{IsSound, IsKept, IsOwn, AreDistinct}
use Rattle.master_record.specs.Told.{IsToldBy, IsResized, sizes_of}

-- a record that begins knows of no line
abbrev pub BeginsWithNoLine : Type 0
BeginsWithNoLine =
    (normal : Normal) (mode : Mode) (strategy : Strategy) (workers budget : ℕ)
    → IsToldBy [] (opened normal mode strategy workers budget)

-- the lines of a merge go behind the lines so far
abbrev pub MergesAreTold : Type 0
MergesAreTold =
    (lines more : List Line) (old new : Books) (worker : ℕ) (gain : Gain)
    → IsSound old → IsTrueGain old.normal old.mode gain → IsToldBy lines old
    → HasMerged old worker gain more new → IsToldBy (lines ++ more) new

-- so do those of a pair that was taken in
abbrev pub TakenPairsAreTold : Type 0
TakenPairsAreTold =
    (lines more : List Line) (old new : Books) (pair : Pair)
    → IsSound old → EnclosesN old.normal old.mode pair → IsToldBy lines old
    → HasTaken old pair more new → IsToldBy (lines ++ more) new

-- giving jobs tells nothing
abbrev pub JobsTellNothing : Type 0
JobsTellNothing =
    (lines : List Line) (old new : Books) (jobs : List Job)
    → IsToldBy lines old → HasGiven old jobs new → IsToldBy lines new

-- a PAIR line with the sizes of the record goes behind lines whose last PAIR line has others
abbrev pub SizesAreTold : Type 0
SizesAreTold =
    (lines : List Line) (books : Books)
    → IsToldBy lines books → IsResized lines books
    → (let sizes : Extent = sizes_of books.pair in
    IsToldBy (lines ++ Sizes sizes.lower sizes.upper ∷ []) books)

-- lines that the record knows, behind which those of a verdict may stand
pub record MayEnd (program : Program) (watch : ℕ) (lines : List Line) (books : Books) : Type 0 where
  pub form : IsNormalFormOf books.normal program
  pub told : IsToldBy lines books
  pub inside : KeepsInside watch lines
  pub watched : EachWatched watch lines

-- COMPLETE behind them makes a legal report where the record is finished
abbrev pub CompleteReportsAreLegal : Type 0
CompleteReportsAreLegal =
    (program : Program) (watch : ℕ) (lines : List Line) (books : Books)
    → MayEnd program watch lines books → IsFinished books → EndsSized lines
    → IsLegalReport program books.mode watch books.budget (lines ++ Complete ∷ [])

-- so does INCOHERENT where a gain said that there is no answer set
abbrev pub IncoherentReportsAreLegal : Type 0
IncoherentReportsAreLegal =
    (program : Program) (watch : ℕ) (lines : List Line) (books : Books)
    → MayEnd program watch lines books → IsSound books → books.incoherent ≡ true
    → IsLegalReport program books.mode watch books.budget (lines ++ Incoherent ∷ [])

-- and an UNKNOWN line with PARTIAL where no answer set was given
abbrev pub UnknownReportsAreLegal : Type 0
UnknownReportsAreLegal =
    (program : Program) (watch : ℕ) (lines : List Line) (books : Books)
    → MayEnd program watch lines books → books.answers ≡ 0 → EndsSized lines
    → IsLegalReport program books.mode watch books.budget
    (lines ++ ((Unknown books.budget ∷ []) ++ Partial ∷ []))

-- behind lines that settle something the last PAIR line has other sizes than the record
abbrev pub SettlingResizes : Type 0
SettlingResizes =
    (lines more : List Line) (old new : Books)
    → length new.normal.names ≡ length old.normal.names
    → IsToldBy lines old → IsToldBy (lines ++ more) new → all_sizes more ≡ []
    → 1 ≤ count_by is_in more + count_by is_out more → IsResized (lines ++ more) new

-- the lines of a merge are true
abbrev pub MergedLinesAreTrue : Type 0
MergedLinesAreTrue =
    (old new : Books) (worker : ℕ) (gain : Gain) (lines : List Line)
    → IsTrueGain old.normal old.mode gain → HasMerged old worker gain lines new
    → All (IsTrueLine old.normal old.mode) lines

-- a merge gives an answer set only where there is one
abbrev pub MergedAnswersAreThere : Type 0
MergedAnswersAreThere =
    (old new : Books) (worker : ℕ) (gain : Gain) (lines : List Line)
    → IsTrueGain old.normal old.mode gain → (merge : HasMerged old worker gain lines new)
    → 1 ≤ length merge.answers → IsCoherent old.normal

-- the pair after true lines encloses the consequences where it did before
abbrev pub TrueLinesEnclose : Type 0
TrueLinesEnclose =
    (normal : Normal) (mode : Mode) (pair : Pair) (lines : List Line)
    → EnclosesN normal mode pair → All (IsTrueLine normal mode) lines
    → EnclosesN normal mode (with_lines pair lines)

-- true lines settle only candidates
abbrev pub TrueLinesAreOver : Type 0
TrueLinesAreOver =
    (normal : Normal) (mode : Mode) (count : ℕ) (lines : List Line)
    → count ≡ length normal.names → All (IsTrueLine normal mode) lines
    → All (IsLineOver count) lines

-- a record that begins is kept, with every candidate left, no test and room for one
abbrev pub OpeningsAreKept : Type 0
OpeningsAreKept =
    (normal : Normal) (mode : Mode) (strategy : Strategy) (workers budget : ℕ)
    (own : Vec OwnTest Global) (room : Vec SpentTest Global) → IsNormal normal
    → IsStrategy strategy → 1 ≤ workers → workers ≤ 64 → own.items ≡ [] → vec_len own ≡ 0
    → room.items ≡ [] → vec_len room ≡ 0 → 1 ≤ vec_capacity room
    → IsKept (opened normal mode strategy workers budget) (replicate (length normal.names) true) own
    room

-- the record after true lines is kept
abbrev pub TrueLinesAreKept : Type 0
TrueLinesAreKept =
    (books : Books) (left : List Bool) (own : Vec OwnTest Global) (room : Vec SpentTest Global)
    (answers : ℕ) (lines : List Line) (after : Course)
    → books.own ≡ open_own books.pair own.items → IsKept books left own room
    → after ≡ fold course_after (record { pair = books.pair; left = left }) lines
    → books.answers + answers < 2 ^ 32 → (1 ≤ answers → IsCoherent books.normal)
    → All (IsTrueLine books.normal books.mode) lines
    → IsKept (settled_by books answers lines) after.left own room

-- so is the record with other workers whose jobs name candidates
abbrev pub WorkersAreKept : Type 0
WorkersAreKept =
    (books : Books) (left : List Bool) (own : Vec OwnTest Global) (room : Vec SpentTest Global)
    (workers : List Worker) → IsKept books left own room
    → length workers ≡ length books.workers
    → All (λ (worker : Worker). IsJobOver books.normal.names worker.job) workers
    → IsKept (record books { workers = workers }) left own room

-- and that with the own test of a candidate that was left, where there is room for one more
abbrev pub SpentTestsAreKept : Type 0
SpentTestsAreKept =
    (books : Books) (left : List Bool) (own now : Vec OwnTest Global)
    (room space : Vec SpentTest Global) (one : OwnTest)
    → books.own ≡ open_own books.pair own.items → IsKept books left own room
    → is_left_at left (one.cand - 1) ≡ true → now.items ≡ own.items ++ one ∷ []
    → vec_len now ≡ vec_len own + 1
    → IsOwn books.normal books.mode books.budget (length books.workers) one
    → All (λ (item : OwnTest). item.test.by ≡ one.test.by
    → AreApart books.normal item.test one.test) books.own
    → space.items ≡ [] → vec_len space ≡ 0 → vec_len own + 2 ≤ vec_capacity space
    → IsKept
    (record books { own = open_own books.pair (books.own ++ new_own books.own one) })
    (slice_set left (one.cand - 1) false) now space

-- one answer set more that is news has its line
abbrev pub NewsAreGiven : Type 0
NewsAreGiven =
    (names : List Named) (mode : Mode) (pair : Pair) (set : List Bool) (count : ℕ)
    (sets : List (List Bool)) (lines : List Line) (number : ℕ)
    → AreAnswers names mode pair count sets lines → number ≡ count + length lines
    → IsNews names mode pair number set
    → AreAnswers names mode pair count (sets ++ set ∷ []) (lines ++ Answer (number + 1) set ∷ [])

-- and one that isn't has none
abbrev pub OthersAreDropped : Type 0
OthersAreDropped =
    (names : List Named) (mode : Mode) (pair : Pair) (set : List Bool) (count : ℕ)
    (sets : List (List Bool)) (lines : List Line) (number : ℕ)
    → AreAnswers names mode pair count sets lines → number ≡ count + length lines
    → ¬ IsNews names mode pair number set
    → AreAnswers names mode pair count (sets ++ set ∷ []) lines

-- own tests of different candidates ascend once they are sorted
abbrev pub SortedTestsAscend : Type 0
SortedTestsAscend =
    (own sorted : List OwnTest) → IsPermutation own sorted → AreDistinct own
    → IsNonDecreasingBy (λ (one : OwnTest). one.cand) sorted
    → AllPairs (λ (earlier later : OwnTest). earlier.cand < later.cand) sorted

-- a bound has one more where a place becomes true
abbrev pub WritesAddOne : Type 0
WritesAddOne =
    (bits : List Bool) (place : ℕ) → place < length bits
    → slice_index_or bits place false ≡ false
    → count_by (λ (bit : Bool). bit) (slice_set bits place true)
    ≡ count_by (λ (bit : Bool). bit) bits + 1

-- and one less where a place becomes false
abbrev pub WritesTakeOne : Type 0
WritesTakeOne =
    (bits : List Bool) (place : ℕ) → place < length bits
    → slice_index_or bits place false ≡ true
    → count_by (λ (bit : Bool). bit) (slice_set bits place false) + 1
    ≡ count_by (λ (bit : Bool). bit) bits
