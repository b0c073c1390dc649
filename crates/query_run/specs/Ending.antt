-- How a run ends.
use Rattle.std.specs.Prelude.{◌≡◌, ◌≤◌, ◌⊎◌, ◌++◌, ◌∷◌, ℕ, List, [], Option, Result, IfOk, map}
use Rattle.byte_edges.specs.Edges.{Writes}
use Rattle.ground_program.specs.declared.program.Named.{Named}
use Rattle.normal_program.specs.declared.spent.SpentTest.{SpentTest}
use Rattle.report.specs.declared.lines.Line.{Line}
use Rattle.report.specs.declared.lines.Line.TheVariants as lines
use Rattle.report.specs.Text.{text_of_lines}
use Rattle.master_record.specs.declared.verdict.Verdict.{Verdict}
use Rattle.master_record.specs.declared.verdict.Verdict.TheVariants as verdicts
use Rattle.master_record.specs.Books.{open_list}
use Rattle.master_record.specs.Verdicts.{AreSpent}
use Rattle.query_run.specs.declared.answering.Ended.{Ended}
use Rattle.query_run.specs.Way.{Left, last_sizes}

-- the last lines were written, and a status and spent tests given
pub record HasEnded {K E : Type 0} (written : K → Option (List ℕ)) (faults : K → ℕ)
    (sink_old sink_new : K) (names : List Named) (last : List Line) (status : ℕ)
    (spent : List SpentTest) (result : Result Ended E) : Type 0 where
  pub writes : Writes written faults sink_old sink_new (text_of_lines names last) result
  pub given : IfOk result (λ told. told ≡ record { status = status; spent = spent })

-- the tests on which PARTIAL rests were given, and the lines that name them written
pub record IsSpentEnd {K E : Type 0} (written : K → Option (List ℕ)) (faults : K → ℕ)
    (sink_old sink_new : K) (left : Left) (tests : List Line) (result : Result Ended E) :
    Type 0 where
  pub spent : List SpentTest
  pub are : AreSpent left.books spent
  pub ended :
      HasEnded written faults sink_old sink_new left.books.normal.names
      (last_sizes left ++ (tests ++ lines.Partial ∷ [])) 1 spent result

-- the test of coherence was spent, or the own tests of all open candidates; or memory ran out
abbrev pub HasEndedPartial : {K E : Type 0} → (K → Option (List ℕ)) → (K → ℕ) → K → K → Left
    → Result Ended E → Type 0
HasEndedPartial written faults sink_old sink_new left result =
    ((left.books.answers ≡ 0)
    × IsSpentEnd written faults sink_old sink_new left
    (lines.Unknown left.books.budget ∷ []) result)
    ⊎ (((1 ≤ left.books.answers)
    × IsSpentEnd written faults sink_old sink_new left
    (map (λ cand. lines.Unsettled cand left.books.budget) (open_list left.books)) result)
    ⊎ HasEnded written faults sink_old sink_new left.books.normal.names (lines.NoMemory ∷ []) 7 []
    result)

-- the end of a run with this verdict
abbrev pub HasFinished : {K E : Type 0} → (K → Option (List ℕ)) → (K → ℕ) → K → K → Left
    → Verdict → Result Ended E → Type 0
HasFinished written faults sink_old sink_new left verdicts.Complete result =
    HasEnded written faults sink_old sink_new left.books.normal.names
    (last_sizes left ++ lines.Complete ∷ []) 0 [] result
HasFinished written faults sink_old sink_new left verdicts.Partial result =
    HasEndedPartial written faults sink_old sink_new left result
HasFinished written faults sink_old sink_new left verdicts.Incoherent result =
    HasEnded written faults sink_old sink_new left.books.normal.names (lines.Incoherent ∷ []) 2 []
    result
HasFinished written faults sink_old sink_new left verdicts.NoMemory result =
    HasEnded written faults sink_old sink_new left.books.normal.names (lines.NoMemory ∷ []) 7 []
    result
HasFinished written faults sink_old sink_new left verdicts.Running result =
    HasEnded written faults sink_old sink_new left.books.normal.names (lines.NoMemory ∷ []) 7 []
    result
