-- How far a run with one worker has come, and what its steps do.
use Rattle.std.specs.Prelude.{◌≡◌, ◌≤◌, ◌<◌, ◌⊎◌, ◌++◌, ◌∷◌, ℕ, Bool, true, false, List, []}
use Rattle.std.specs.Prelude.{Option, Result, All, IfOk, count_by, not, if◌then◌else◌}
use Rattle.std.specs.List.{list_any}
use Rattle.byte_edges.specs.Edges.{Writes}
use Rattle.ground_program.specs.declared.program.Program.{Program}
use Rattle.normal_program.specs.declared.normal.Normal.{Normal}
use Rattle.normal_program.specs.Normal.{IsNormalFormOf}
use Rattle.run_words.specs.declared.task.Settings.{Settings}
use Rattle.run_words.specs.Words.{IsAlone}
use Rattle.report.specs.declared.lines.Line.{Line}
use Rattle.report.specs.declared.lines.Line.TheVariants as lines
use Rattle.report.specs.Legal.{EndsSized, all_sizes, is_in, is_out}
use Rattle.report.specs.Text.{NamesCandidate, text_of_lines}
use Rattle.worker_strategies.specs.Working.{Working}
use Rattle.master_record.specs.declared.verdict.Verdict.{Verdict}
use Rattle.master_record.specs.declared.verdict.Verdict.TheVariants as verdicts
use Rattle.master_record.specs.Course.{is_open}
use Rattle.master_record.specs.Books.{Books}
use Rattle.master_record.specs.Sound.{IsSound}
use Rattle.master_record.specs.Told.{AreLegalN, IsToldBy, sizes_of}
use Rattle.master_record.specs.Verdicts.{IsVerdict}
use Rattle.query_run.specs.Agreed.{IsAgreed}
use Rattle.query_run.specs.Progress.{to_do}

-- the record, the worker, how many clauses a round may count, and whether a PAIR line was written
pub record Way : Type 0 where
  pub books : Books
  pub worker : Working
  pub slice : ℕ
  pub sized : Bool

-- the record is true, some lines tell it, its tests are those of open candidates, and it and the
-- worker agree
pub record IsOnWay (way : Way) : Type 0 where
  pub sound : IsSound way.books
  pub told : List Line
  pub tells : IsToldBy told way.books
  pub unsettled : All (λ one. is_open way.books.pair one.cand ≡ true) way.books.own
  pub agreed : IsAgreed way.books way.worker
  pub slice : 1 ≤ way.slice

-- the same run
pub record IsSameRun (old new : Books) : Type 0 where
  pub normal : new.normal ≡ old.normal
  pub mode : new.mode ≡ old.mode
  pub budget : new.budget ≡ old.budget

-- a line settles a candidate
abbrev pub settles : Line → Bool
settles (lines.SettledIn cand by) = true
settles (lines.SettledOut cand by) = true
settles _ = false

-- the PAIR line of a record
abbrev pub sizes_line : Books → Line
sizes_line books = lines.Sizes (sizes_of books.pair).lower (sizes_of books.pair).upper

-- a PAIR line with these sizes, unless one stands there
abbrev pub sizes_before : Bool → ℕ → ℕ → List Line
sizes_before sized lower upper = if sized then [] else lines.Sizes lower upper ∷ []

-- lines of a round, with a PAIR line behind them where they settle a candidate
abbrev pub with_sizes : Books → List Line → List Line
with_sizes books told =
    told
    ++ sizes_before (not (list_any settles told)) (sizes_of books.pair).lower
    (sizes_of books.pair).upper

-- a round was done, which gave these lines
pub record HasGone (old : Way) (told : List Line) (new : Way) : Type 0 where
  pub on : IsOnWay new
  pub same : IsSameRun old.books new.books
  pub tells : (before : List Line) → IsToldBy before old.books
      → IsToldBy (before ++ told) new.books
  pub unsized : all_sizes told ≡ []
  pub named : All (NamesCandidate old.books.normal.names) told
  pub less : to_do new.books new.worker < to_do old.books old.worker
  pub slice : new.slice ≡ old.slice
  pub sized : new.sized ≡ old.sized

-- the lines so far: the record knows them, and a PAIR line stands behind each that settles
-- something
pub record Stands (told : List Line) (way : Way) : Type 0 where
  pub tells : IsToldBy told way.books
  pub ended : way.sized ≡ true → EndsSized told
  pub begun : way.sized ≡ false → (all_sizes told ≡ []) × (count_by is_in told ≡ 0)
      × (count_by is_out told ≡ 0)

-- the run has stopped behind these lines: its verdict is known, or memory ran out
abbrev pub HasStopped : List Line → Verdict → Way → Type 0
HasStopped told verdict way =
    (verdict ≡ verdicts.NoMemory)
    ⊎ (Stands told way × IsOnWay way × IsVerdict way.books verdict)

-- lines were written, or a first part of their text where the sink failed. They may begin a report,
-- and at Ok the run has stopped behind them
pub record HasReached {K E : Type 0} (written : K → Option (List ℕ)) (faults : K → ℕ)
    (sink_old sink_new : K) (old new : Way) (result : Result Verdict E) : Type 0 where
  pub told : List Line
  pub legal : AreLegalN old.books.normal old.books.mode told
  pub writes :
      Writes written faults sink_old sink_new (text_of_lines old.books.normal.names told) result
  pub same : IsSameRun old.books new.books
  pub stopped : IfOk result (λ verdict. HasStopped told verdict new)

-- what is left of a run when its worker is gone: the record, and whether a PAIR line was written
pub record Left : Type 0 where
  pub books : Books
  pub sized : Bool

-- what a run leaves
abbrev pub left_of : Way → Left
left_of way = record { books = way.books; sized = way.sized }

-- the PAIR line before a verdict, where there was none
abbrev pub last_sizes : Left → List Line
last_sizes left =
    sizes_before left.sized (sizes_of left.books.pair).lower (sizes_of left.books.pair).upper

-- the PAIR line before a verdict, where there was none
abbrev pub first_sizes : Way → List Line
first_sizes way =
    sizes_before way.sized (sizes_of way.books.pair).lower (sizes_of way.books.pair).upper

-- the record is of this normal form and budget
pub record IsRunOf (normal : Normal) (budget : ℕ) (books : Books) : Type 0 where
  pub same_normal : books.normal ≡ normal
  pub same_budget : books.budget ≡ budget

-- a run by these settings for a program begins
pub record Begins (program : Program) (settings : Settings) (way : Way) : Type 0 where
  pub form : IsNormalFormOf way.books.normal program
  pub mode : way.books.mode ≡ settings.mode
  pub budget : way.books.budget ≡ settings.budget
  pub alone : IsAlone settings
  pub on : IsOnWay way
  pub stands : Stands [] way
