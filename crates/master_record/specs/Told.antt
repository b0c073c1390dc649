-- The lines of a run so far, with PAIR lines between them, and what the record knows of them.
use Rattle.std.specs.Prelude.{◌≡◌, ◌≢◌, ◌+◌, ◌-◌, ◌↔◌, ℕ, Bool, false, List, length, count_by, Some}
use Rattle.std.specs.Prelude.{All}
use Rattle.ground_program.specs.declared.program.Mode.{Mode}
use Rattle.ground_program.specs.declared.program.Program.{Program}
use Rattle.ground_program.specs.declared.pair.Pair.{Pair}
use Rattle.ground_program.specs.Bounds.{IsCandidate}
use Rattle.normal_program.specs.declared.normal.Normal.{Normal}
use Rattle.normal_program.specs.Normal.{IsNormalFormOf}
use Rattle.report.specs.declared.lines.Line.{Line}
use Rattle.report.specs.Legal.{IsLegalSoFar, IsSettled, IsShownBy, Extent, IsInside, all_sizes}
use Rattle.report.specs.Legal.{last_of}
use Rattle.report.specs.Legal.{is_answer, is_in, is_out}
use Rattle.master_record.specs.Course.{is_open}
use Rattle.master_record.specs.Books.{Books}

-- lines may begin a report on each program with this normal form, whoever watches
pub record AreLegalN (normal : Normal) (mode : Mode) (lines : List Line) : Type 0 where
  pub each : (program : Program) (watch : ℕ) → IsNormalFormOf normal program
      → IsLegalSoFar program mode watch lines

-- the sizes of a pair
abbrev pub sizes_of : Pair → Extent
sizes_of pair = record {
  lower = count_by (λ bit. bit) pair.lower;
  upper = count_by (λ bit. bit) pair.upper;
}

-- the record knows of these lines how many answer sets they give and what they settle
pub record IsToldBy (lines : List Line) (books : Books) : Type 0 where
  pub legal : AreLegalN books.normal books.mode lines
  pub answers : books.answers ≡ count_by is_answer lines
  pub lower : count_by (λ bit. bit) books.pair.lower ≡ count_by is_in lines
  pub upper : count_by (λ bit. bit) books.pair.upper + count_by is_out lines
      ≡ length books.normal.names
  pub settled : (cand : ℕ) → IsCandidate books.normal.names cand
      → IsSettled lines cand ↔ (is_open books.pair cand ≡ false)
  pub shown : (cand by : ℕ) → IsCandidate books.normal.names cand
      → IsShownBy books.normal.names books.mode lines cand by
      → is_open books.pair cand ≡ false
  pub sized : All (IsInside (sizes_of books.pair)) (all_sizes lines)

-- the last PAIR line has other sizes than the pair
abbrev pub IsResized : List Line → Books → Type 0
IsResized lines books = last_of (all_sizes lines) ≢ Some (sizes_of books.pair)
