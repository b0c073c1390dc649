-- Which candidates are open, and the pair that lines make.
use Rattle.std.specs.Prelude.{◌≡◌, ◌≤◌, ◌<◌, ◌-◌, ◌^◌, ◌&&◌, not, ℕ, Bool, true, false, List}
use Rattle.std.specs.Prelude.{length}
use Rattle.std.specs.Prelude.{fold, slice_index_or, slice_set, count_by}
use Rattle.ground_program.specs.declared.pair.Pair.{Pair}
use Rattle.ground_program.specs.declared.program.Named.{Named}
use Rattle.ground_program.specs.Bounds.{IsCandidate, IsPairOver, HasCandidate}
use Rattle.report.specs.declared.lines.Line.{Line}
use Rattle.report.specs.declared.lines.Line.TheVariants.{SettledIn, SettledOut}

-- a candidate that the pair doesn't settle
pub record IsOpenIn (names : List Named) (pair : Pair) (cand : ℕ) : Type 0 where
  pub candidate : IsCandidate names cand
  pub unproved : ¬ HasCandidate pair.lower cand
  pub possible : HasCandidate pair.upper cand

-- whether the candidate at a place, from 0, is open
abbrev pub is_open_at : Pair → ℕ → Bool
is_open_at pair place =
    not (slice_index_or pair.lower place false) && slice_index_or pair.upper place false

-- whether a pair leaves a candidate open
abbrev pub is_open : Pair → ℕ → Bool
is_open pair cand = is_open_at pair (cand - 1)

-- the pair after a line
abbrev pub with_line : Pair → Line → Pair
with_line pair (SettledIn cand by) =
    record { lower = slice_set pair.lower (cand - 1) true; upper = pair.upper }
with_line pair (SettledOut cand by) =
    record { lower = pair.lower; upper = slice_set pair.upper (cand - 1) false }
with_line pair _ = pair

-- the pair after lines
abbrev pub with_lines : Pair → List Line → Pair
with_lines pair lines = fold with_line pair lines

-- a pair, and for each candidate whether it is open and its own test isn't spent
pub record Course : Type 0 where
  pub pair : Pair
  pub left : List Bool

-- a line settles no candidate, or one of so many
abbrev pub IsLineOver : ℕ → Line → Type 0
IsLineOver count (SettledIn cand by) = (1 ≤ cand) × (cand ≤ count)
IsLineOver count (SettledOut cand by) = (1 ≤ cand) × (cand ≤ count)
IsLineOver count _ = Unit {0}

-- what is left after a line
abbrev pub left_after : List Bool → Line → List Bool
left_after left (SettledIn cand by) = slice_set left (cand - 1) false
left_after left (SettledOut cand by) = slice_set left (cand - 1) false
left_after left _ = left

abbrev pub course_after : Course → Line → Course
course_after course line =
    record { pair = with_line course.pair line; left = left_after course.left line }

-- the least place where something holds, or the number of places
pub record IsLeast (holds : ℕ → Bool) (count place : ℕ) : Type 0 where
  pub within : place ≤ count
  pub before : (k : ℕ) → k < place → holds k ≡ false
  pub here : place < count → holds place ≡ true

abbrev pub is_left_at : List Bool → ℕ → Bool
is_left_at left place = slice_index_or left place false

-- a pair with its sizes and least places
pub record IsCourse (pair : Pair) (left : List Bool) (lower_size upper_size least_open least_left : ℕ)
    : Type 0 where
  pub few : length left < 2 ^ 31
  pub over : IsPairOver (length left) pair
  pub lower : lower_size ≡ count_by (λ bit. bit) pair.lower
  pub upper : upper_size ≡ count_by (λ bit. bit) pair.upper
  pub first_open : IsLeast (is_open_at pair) (length left) least_open
  pub first_left : IsLeast (is_left_at left) (length left) least_left
